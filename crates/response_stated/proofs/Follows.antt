-- Whatever meets `NextExactly` is the definition, so that the truth, the joining and the number of parts follow of it; so is whatever meets
-- `RoomExactly`, and of both it follows that the room serves.
use Prim.Native.Nat.{ℕ}
use mathlib.Core.Path.{◌≡◌, subst}
use Rattle.outcome.specs.Outcome.{Outcome}
use Rattle.response_stated.specs.Parts.{response_room_of}
use Rattle.response_stated.specs.Terms.{Sender, sending_of}
use Rattle.response_stated.specs.Claims
use Rattle.response_stated.proofs.Only as Only
use Rattle.response_stated.proofs.Theorems as Theorems

pub sender_is : (next : Sender) → Claims.NextExactly next → sending_of ≡ next
sender_is next x = λ d body r limit old. Only.NextExactly sending_of next Theorems.NextExactly x body r limit old d

pub truth_follows : (next : Sender) → Claims.NextExactly next → Claims.TellsTheTruth next
truth_follows next x = subst Claims.TellsTheTruth (sender_is next x) Theorems.TellsTheTruth

pub joining_follows : (next : Sender) → Claims.NextExactly next → Claims.PartsJoin next
joining_follows next x = subst Claims.PartsJoin (sender_is next x) Theorems.PartsJoin

pub number_follows : (next : Sender) → Claims.NextExactly next → Claims.NumberOfParts next
number_follows next x = subst Claims.NumberOfParts (sender_is next x) Theorems.NumberOfParts

pub room_is : (room : (limit longest : ℕ) → Outcome ℕ) → Claims.RoomExactly room → response_room_of ≡ room
room_is room x = λ d limit longest. Only.RoomExactly response_room_of room Theorems.RoomExactly x limit longest d

pub serving_follows : (room : (limit longest : ℕ) → Outcome ℕ) (next : Sender) → Claims.RoomExactly room → Claims.NextExactly next → Claims.RoomServes room next
serving_follows room next x y =
    subst (λ (s : Sender). Claims.RoomServes room s) (sender_is next y)
    (subst (λ (f : (limit longest : ℕ) → Outcome ℕ). Claims.RoomServes f sending_of) (room_is room x) Theorems.RoomServes)
