-- What a conversion answers, in the documents' numbers: the length of what was written, a refusal, or a status word with its pair.
use Rattle.convert_stated.specs.Words.{ℕ, Outcome, Gives, Ok, Err, not_done_of, Converted}

abbrev pub converted_of : Converted → Outcome ℕ
converted_of (Ok n) = Gives n
converted_of (Err e) = not_done_of e
