use Rattle.stack_assembly.proofs.Carried.{carries_over}
use Rattle.stack_assembly.proofs.worked_examples.cards_carry_over.Goals as goal

pub returns : goal.returns
returns c = carries_over
