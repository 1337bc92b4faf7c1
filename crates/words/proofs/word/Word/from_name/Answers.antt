-- Each word's name tells it.
use Rattle.words.proofs.Rows.{a_word}
use Rattle.words.proofs.word.Word.from_name.Goals as goal

pub returns-then-is_named : goal.returns-then-is_named
returns-then-is_named c = a_word _ c.args.name.now c.if-is_named.ensures

pub returns-then-is_named-2 : goal.returns-then-is_named-2
returns-then-is_named-2 c = a_word _ c.args.name.now c.if-is_named-2.ensures
