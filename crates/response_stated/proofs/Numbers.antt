-- The answers' words tell the cases apart: each has a way back.
use Prim.Native.Nat.{ℕ}
use mathlib.Core.Path.{◌≡◌, refl, ap}
use Rattle.outcome.specs.Outcome.{Outcome, R, Word, Gives}
use Rattle.outcome.proofs.Laws.{one_to_one, refusal_of, refusal_back}
use Rattle.response_stated.specs.Words.{ReadResponse, WroteResponse, NextPart, ResponseRoom, Response, Sent, response_read, response_written, part_sent, room_said}
use Rattle.std.specs.Prelude.{Ok, Err}

read_back : Outcome Response → ReadResponse
read_back (R n) = Err (refusal_of n)
read_back (Word w) = Err (refusal_of 0)
read_back (Gives r) = Ok r

read_back_lem : (a : ReadResponse) → read_back (response_read a) ≡ a
unfolding read_back
read_back_lem (Err why) = ap Err (refusal_back why)
read_back_lem (Ok r) = refl

pub read_same : (a b : ReadResponse) → response_read a ≡ response_read b → a ≡ b
read_same = one_to_one response_read read_back read_back_lem

wrote_back : Outcome ℕ → WroteResponse
wrote_back (R n) = Err (refusal_of n)
wrote_back (Word w) = Ok 0
wrote_back (Gives n) = Ok n

wrote_back_lem : (a : WroteResponse) → wrote_back (response_written a) ≡ a
unfolding wrote_back
wrote_back_lem (Err why) = ap Err (refusal_back why)
wrote_back_lem (Ok n) = refl

pub wrote_same : (a b : WroteResponse) → response_written a ≡ response_written b → a ≡ b
wrote_same = one_to_one response_written wrote_back wrote_back_lem

next_back : Outcome Sent → NextPart
next_back (R n) = Err (refusal_of n)
next_back (Word w) = Err (refusal_of 0)
next_back (Gives s) = Ok s

next_back_lem : (a : NextPart) → next_back (part_sent a) ≡ a
unfolding next_back
next_back_lem (Err why) = ap Err (refusal_back why)
next_back_lem (Ok s) = refl

pub next_same : (a b : NextPart) → part_sent a ≡ part_sent b → a ≡ b
next_same = one_to_one part_sent next_back next_back_lem

room_back : Outcome ℕ → ResponseRoom
room_back (R n) = Err (refusal_of n)
room_back (Word w) = Ok 0
room_back (Gives n) = Ok n

room_back_lem : (a : ResponseRoom) → room_back (room_said a) ≡ a
unfolding room_back
room_back_lem (Err why) = ap Err (refusal_back why)
room_back_lem (Ok n) = refl

pub room_same : (a b : ResponseRoom) → room_said a ≡ room_said b → a ≡ b
room_same = one_to_one room_said room_back room_back_lem
