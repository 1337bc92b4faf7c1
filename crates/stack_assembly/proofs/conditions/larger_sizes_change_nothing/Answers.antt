use Rattle.stack_assembly.proofs.Sizes.{sizes_change_nothing}
use Rattle.stack_assembly.proofs.conditions.larger_sizes_change_nothing.Goals as goal

pub returns : goal.returns
returns c = sizes_change_nothing
