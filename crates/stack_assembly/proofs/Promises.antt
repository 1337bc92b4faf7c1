-- Whatever keeps the promises does just what the definition does: each promise is an equation.
use Rattle.std.proofs.Common.{List, [], ◌∷◌, ◌≡◌, refl, ap, ◌∙◌}
use Rattle.stack_assembly.specs.Run.{Call}
use Rattle.stack_assembly.specs.Host.{Lent, OneToOne}
use Rattle.stack_assembly.specs.Promise.{Made, AllMade, called_all}
use Rattle.stack_assembly.specs.Evaluator.{lent_first, begun, Keeps, all_of, NoChoice}
use Rattle.stack_assembly.proofs.Live.{machine-back}
use Rattle.stack_assembly.proofs.Calls.{whole}

all_kept : (calls : List Call) (l : Lent) (made : List Made) → Keeps calls l made → all_of l made ≡ called_all calls l
unfolding called_all
all_kept [] l [] h = refl
all_kept [] l (m ∷ made) h = absurd h
all_kept (c ∷ calls) l [] h = absurd h
all_kept (c ∷ calls) l (m ∷ made) h =
    ap (λ (r : AllMade). record { answers = m.answer ∷ r.answers; after = r.after }) (all_kept calls m.after made h.1)
    ∙ ap (λ (x : Made). record { answers = x.answer ∷ (called_all calls x.after).answers; after = (called_all calls x.after).after }) h.0

pub no_choice : NoChoice
unfolding begun
no_choice text b c s compiles starts calls made keeps =
    all_kept calls (lent_first text b c s) made keeps ∙ ap (called_all calls) (λ i. lent_first text b (compiles i) (starts i))

pub one_to_one : OneToOne
one_to_one = record { machine = machine-back; lent = whole }
