-- An answer as it is printed.
use Rattle.std.specs.Prelude.{ℕ, List, ◌∷◌, ◌++◌, decimal}
use Rattle.stack_assembly.specs.Answer.{Answer}

-- Its number, its value and its steps, with a space (32) between them.
abbrev pub answer_text : Answer → List ℕ
answer_text a = decimal a.number ++ 32 ∷ decimal a.value ++ 32 ∷ decimal a.steps
