-- A reader of tokens: what it answers, and where it then is.
use Rattle.reader.specs.declared.reader.Reader.{Reader}
use Rattle.reader.specs.declared.scan.Next.{Next}
use Rattle.reader.specs.Next.{next_at, past_of}

-- What stands next in its text.
abbrev pub next_by : Reader → Next
next_by r = next_at r.text.now r.at

-- The same text, past that token.
abbrev pub moved_on : Reader → Reader
moved_on r = record { text = r.text; at = past_of (next_by r) r.at }
