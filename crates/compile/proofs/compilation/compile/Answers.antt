-- `compile` of src/script.rt meets its contract.
use Rattle.std.proofs.Common.{rules, ◌≡◌, Err, arith}
use Rattle.std.proofs.lemmas.Grind.{common_steps}
use Rattle.answers.specs.declared.compile_error.CompileError.TheVariants.{IllFormed}
use Rattle.compile.proofs.Compiling.{too_long, ill-formed, written, too_many_operators, too_many_labels, has_room, copied}
use Rattle.compile.proofs.compilation.compile.Goals as goal

pub returns-then-text-gt-LONGEST_TEXT-clause-compiles : goal.returns-then-text-gt-LONGEST_TEXT-clause-compiles
returns-then-text-gt-LONGEST_TEXT-clause-compiles c = too_long _ _ _ c.if-text-gt-LONGEST_TEXT.true

pub returns-in_err-text-clause-compiles : goal.returns-in_err-text-clause-compiles
returns-in_err-text-clause-compiles c =
    let e : c.from_residual.result ≡ Err (IllFormed c.in_err-text.field-0.0.offset) = grind (arith, common_steps) in
    rw e (ill-formed _ _ _ (omega arith) c.in_err-text.ensures)

pub returns-then-surely_have_room-clause-compiles : goal.returns-then-surely_have_room-clause-compiles
returns-then-surely_have_room-clause-compiles c =
    written _ _ _ (omega arith) c.in_ok-text.ensures.1 (rw c.in_ok-text.ensures.0 at c.surely_have_room.ensures c.if-surely_have_room.true) (rw c.in_ok-text.ensures.0 at c.pass.ensures)

pub returns-then-capacity-counts-clause-compiles : goal.returns-then-capacity-counts-clause-compiles
returns-then-capacity-counts-clause-compiles c = too_many_operators _ _ _ (omega arith) c.in_ok-text.ensures.1 (rw c.in_ok-text.ensures.0 at c.pass-counts.ensures) (rw c.capacity.ensures at c.if-capacity-counts.true)

pub returns-then-capacity-counts-2-clause-compiles : goal.returns-then-capacity-counts-2-clause-compiles
returns-then-capacity-counts-2-clause-compiles c =
    too_many_labels _ _ _ (omega arith) c.in_ok-text.ensures.1 (rw c.in_ok-text.ensures.0 at c.pass-counts.ensures) (rw c.capacity.ensures at c.if-capacity-counts.false) (rw c.capacity-2.ensures at c.if-capacity-counts-2.true)

pub returns-then-counts-gt-WAITING_OPERATORS-clause-compiles : goal.returns-then-counts-gt-WAITING_OPERATORS-clause-compiles
returns-then-counts-gt-WAITING_OPERATORS-clause-compiles c =
    let room = has_room _ _ _ (omega arith) c.in_ok-text.ensures.1 (rw c.in_ok-text.ensures.0 at c.pass-counts.ensures) (rw c.capacity.ensures at c.if-capacity-counts.false) (rw c.capacity-2.ensures at c.if-capacity-counts-2.false) in
    written _ _ _ (omega arith) c.in_ok-text.ensures.1 room (rw c.in_ok-text.ensures.0 at c.pass-then-counts-gt-WAITING_OPERATORS.ensures)

pub returns-clause-compiles : goal.returns-clause-compiles
returns-clause-compiles c =
    copied _ _ _ (omega arith) c.in_ok-text.ensures.1 (rw c.in_ok-text.ensures.0 at c.pass-counts.ensures) (rw c.capacity.ensures at c.if-capacity-counts.false) (rw c.capacity-2.ensures at c.if-capacity-counts-2.false) (search rules) (search rules)
    c.copy_words.ensures c.copy_words-2.ensures
