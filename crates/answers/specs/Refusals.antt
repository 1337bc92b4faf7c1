-- The refusals, enums of the code, and the number and the value that answer each.
use Rattle.std.specs.Prelude.{ℕ, List, ◌++◌, codes, decimal}
pub use Rattle.answers.specs.declared.refusal.Refusal.{Refusal}
pub use Rattle.answers.specs.declared.refusal.Refusal.TheVariants.{Forged, Damaged, OperandStackFull, CallStackFull, BudgetUsed, OperandStackEmpty, Absent}
pub use Rattle.answers.specs.declared.compile_error.CompileError.{CompileError}
pub use Rattle.answers.specs.declared.compile_error.CompileError.TheVariants.{IllFormed, TooLong, TooManyOperators, TooManyLabels}

-- ---- of compile

-- How many bytes a text may have.
abbrev pub longest : ℕ
longest = 65535

abbrev pub error_number : CompileError → ℕ
error_number (IllFormed _) = 21
error_number TooLong = 22
error_number (TooManyOperators _) = 23
error_number (TooManyLabels _) = 24

-- The offset of the first ill-formed sequence; how many bytes there may be; how many operators, or labels, the text has.
abbrev pub error_value : CompileError → ℕ
error_value (IllFormed offset) = offset
error_value TooLong = longest
error_value (TooManyOperators n) = n
error_value (TooManyLabels n) = n

-- What is printed of it.
abbrev pub message : CompileError → List ℕ
message TooLong = codes "the text has more than " ++ decimal longest ++ codes " bytes"
message (IllFormed offset) = codes "the text is not UTF-8 at offset " ++ decimal offset
message (TooManyOperators n) = codes "the text has " ++ decimal n ++ codes " operators, more than their table holds"
message (TooManyLabels n) = codes "the text has " ++ decimal n ++ codes " labels, more than their table holds"

-- ---- of the other calls

abbrev pub refusal_number : Refusal → ℕ
refusal_number Forged = 25
refusal_number (Damaged _) = 26
refusal_number (OperandStackFull _) = 27
refusal_number (CallStackFull _) = 28
refusal_number (BudgetUsed _) = 29
refusal_number OperandStackEmpty = 30
refusal_number (Absent _) = 31

-- The record's place; the stack's depth; the next operator; the address, place or index that is not there.
abbrev pub refusal_value : Refusal → ℕ
refusal_value Forged = 0
refusal_value (Damaged place) = place
refusal_value (OperandStackFull depth) = depth
refusal_value (CallStackFull depth) = depth
refusal_value (BudgetUsed next) = next
refusal_value OperandStackEmpty = 0
refusal_value (Absent place) = place
