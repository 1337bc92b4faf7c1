-- Each turn adds a token's record.
use Rattle.std.proofs.Common.{rules, refl, ap, arith, ◌∙◌}
use Rattle.std.proofs.lemmas.Bool.{ltb-false}
use Rattle.tokens.specs.Reading.{tokens_left}
use Rattle.compile.proofs.Passing.{passing_starts, counted-small, token_some, token_inside, by_colon, passing_label, passing_operator, passing_counted, passed}
use Rattle.compile.proofs.pass.pass.Goals as goal

pub loop-token-init : goal.loop-token-init
loop-token-init c =
    record {
      passed = passing_starts _ _ _ (ap tokens_left c.into_iter-token-iterator.ensures.into_iter_gives ∙ c.new-token-items.ensures);
      operators = refl;
      labels = refl;
    }

pub label_record-requires : goal.label_record-requires
label_record-requires c =
    let v = c.loop-token.invariant.passed in
    let next = c.in-Some.ensures.steps in
    omega (arith, counted-small c.requires v, token_some c.args.text.now next v, token_inside c.args.text.now next v, c.requires)

pub label_record-requires-then-is_label : goal.label_record-requires-then-is_label
label_record-requires-then-is_label c =
    let v = c.loop-token.invariant.passed in
    let next = c.in-Some.ensures.steps in
    omega (arith, counted-small c.requires v, token_some c.args.text.now next v, token_inside c.args.text.now next v, c.requires)

pub push-requires : goal.push-requires
push-requires c = omega (arith, counted-small c.requires c.loop-token.invariant.passed)

pub push-requires-in-None-operator_record : goal.push-requires-in-None-operator_record
push-requires-in-None-operator_record c = omega (arith, counted-small c.requires c.loop-token.invariant.passed)

pub push-requires-then-is_label : goal.push-requires-then-is_label
push-requires-then-is_label c = omega (arith, counted-small c.requires c.loop-token.invariant.passed)

pub overflow_add-operators : goal.overflow_add-operators
overflow_add-operators c = record { fits = omega (arith, counted-small c.requires c.loop-token.invariant.passed) }

pub loop-token-preserved-in-Some-operator_record : goal.loop-token-preserved-in-Some-operator_record
loop-token-preserved-in-Some-operator_record c =
    let some = rw c.as_bytes-bytes.ensures.value at c.in-Some-operator_record.ensures in
    record {
      passed = rw c.push.ensures.count (passing_operator c.args.text.now c.in-Some.ensures.steps some c.loop-token.invariant.passed c.push.ensures.words);
      operators = c.push.ensures.same ∙ c.loop-token.invariant.operators;
      labels = c.loop-token.invariant.labels;
    }

pub loop-token-preserved-in-None-operator_record : goal.loop-token-preserved-in-None-operator_record
loop-token-preserved-in-None-operator_record c =
    let none = rw c.as_bytes-bytes.ensures.value at c.in-None-operator_record.ensures in
    let written = rw c.label_record.ensures at c.push-in-None-operator_record.ensures.words in
    record {
      passed = rw c.push-in-None-operator_record.ensures.count (passing_label c.args.text.now c.in-Some.ensures.steps none c.loop-token.invariant.passed written);
      operators = c.loop-token.invariant.operators;
      labels = c.push-in-None-operator_record.ensures.same ∙ c.loop-token.invariant.labels;
    }

pub loop-token-preserved-then-is_label : goal.loop-token-preserved-then-is_label
loop-token-preserved-then-is_label c =
    let none = by_colon c.args.text.now c.in-Some.ensures.steps (rw (c.is_label.ensures, c.as_bytes-bytes.ensures.value) at c.if-is_label.true) in
    let written = rw c.label_record-then-is_label.ensures at c.push-then-is_label.ensures.words in
    record {
      passed = rw c.push-then-is_label.ensures.count (passing_label c.args.text.now c.in-Some.ensures.steps none c.loop-token.invariant.passed written);
      operators = c.loop-token.invariant.operators;
      labels = c.push-then-is_label.ensures.same ∙ c.loop-token.invariant.labels;
    }

pub loop-token-preserved : goal.loop-token-preserved
loop-token-preserved c =
    let colon = rw (c.is_label.ensures, c.as_bytes-bytes.ensures.value) at c.if-is_label.false in
    let full = ltb-false _ _ (rw c.has_room.ensures at c.if-has_room.false) in
    record {
      passed = passing_counted c.args.text.now c.in-Some.ensures.steps c.loop-token.invariant.passed colon full;
      operators = c.loop-token.invariant.operators;
      labels = c.loop-token.invariant.labels;
    }

pub returns : goal.returns
returns c = let p = passed c.loop-token.invariant.passed c.in-None.ensures.steps.0 in search (rules, p)
