-- The numbers of a record and of a session, written down and read again; and records that stand for the same. It mentions no function.
use mathlib.Core.Path.{◌≡◌, refl, ap}
use Rattle.u2f_up_stated.specs.Numbers.{window_of}
use Rattle.u2f_up_stated.proofs.Laws.{five_apart}
use Rattle.panel_stated.specs.Words.{Window, None, Some, Presence, PresenceRecord, SessionRecord, presence_in, session_in}
use Rattle.panel_stated.specs.Numbers.{window_no, presence_numbers, session_numbers}
use Rattle.panel_stated.specs.Terms.{SameNumbers}

window_back : (w : Window) → window_of (window_no w) ≡ w
window_back None = refl
window_back (Some m) = refl

pub record_back : (p : Presence) → presence_in (presence_numbers p) ≡ p
record_back p = rw (window_back p.prompt, window_back p.touch) refl

-- records of numbers that stand for the same are the same
pub same_record : (a b : PresenceRecord) → presence_in a ≡ presence_in b → SameNumbers a b
same_record a b e = five_apart a b e

-- a session's numbers are those that it stands for
pub same_session : (a b : SessionRecord) → session_in a ≡ session_in b → a ≡ b
same_session a b e = ap session_numbers e
