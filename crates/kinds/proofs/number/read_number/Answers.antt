-- A sign leaves one magnitude to read.
use Rattle.std.proofs.Common.{◌≡◌, ◌-◌, ◌%◌, ◌^◌, Some, sym, ap, ◌∙◌, arith}
use Rattle.kinds.proofs.Digits.{read_is, none_is, signed, least_is, less_is}
use Rattle.kinds.proofs.number.read_number.Goals as goal

pub returns-in_err-magnitude : goal.returns-in_err-magnitude
returns-in_err-magnitude c =
    rw c.from_residual.ensures
    (none_is c.split_sign-minus.result.0 ∙ read_is (rw c.base.ensures.base at c.base.ensures.bounds.1) c.args.bytes.now c.split_sign-minus.ensures.0 (rw (c.split_sign-minus.ensures.1, c.base.ensures.base) at c.in_err-magnitude.ensures))

pub returns-then-not-minus : goal.returns-then-not-minus
returns-then-not-minus c =
    let m = c.if-not-minus.true in
    sym (ap (λ t. signed t (Some c.in_ok-magnitude.magnitude)) m)
    ∙ read_is (rw c.base.ensures.base at c.base.ensures.bounds.1) c.args.bytes.now c.split_sign-minus.ensures.0 (rw (c.split_sign-minus.ensures.1, c.base.ensures.base) at c.in_ok-magnitude.ensures)

pub returns-then-magnitude-gt-LEAST_MAGNITUDE : goal.returns-then-magnitude-gt-LEAST_MAGNITUDE
returns-then-magnitude-gt-LEAST_MAGNITUDE c =
    let m = c.if-not-minus.false in
    sym (less_is c.in_ok-magnitude.magnitude c.if-magnitude-gt-LEAST_MAGNITUDE.true)
    ∙ sym (ap (λ t. signed t (Some c.in_ok-magnitude.magnitude)) m)
    ∙ read_is (rw c.base.ensures.base at c.base.ensures.bounds.1) c.args.bytes.now c.split_sign-minus.ensures.0 (rw (c.split_sign-minus.ensures.1, c.base.ensures.base) at c.in_ok-magnitude.ensures)

pub returns : goal.returns
returns c =
    let m = c.if-not-minus.false in
    let e : c.wrapping_neg.result ≡ (2 ^ 32 - c.in_ok-magnitude.magnitude) % 2 ^ 32 = omega (arith, c.wrapping_neg.ensures, c.wrapping_neg.type_inv, c.if-magnitude-gt-LEAST_MAGNITUDE.false) in
    rw e
    (sym (least_is c.in_ok-magnitude.magnitude c.if-magnitude-gt-LEAST_MAGNITUDE.false)
    ∙ sym (ap (λ t. signed t (Some c.in_ok-magnitude.magnitude)) m)
    ∙ read_is (rw c.base.ensures.base at c.base.ensures.bounds.1) c.args.bytes.now c.split_sign-minus.ensures.0 (rw (c.split_sign-minus.ensures.1, c.base.ensures.base) at c.in_ok-magnitude.ensures))
