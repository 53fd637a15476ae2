-- The claim that is false of each wrong program, at an input where it bites.
use Prim.Native.Nat.{ℕ, ◌<◌, ◌≤◌}
use mathlib.Core.Path.{◌≡◌, refl, ap, sym, ◌∙◌}
use mathlib.Core.List.{List, [], ◌∷◌}
use mathlib.Core.Logic.{inl}
use native.Mathlib.Omega.{arith}
use lib.ListN.{length, replicate}
use Rattle.outcome.specs.Outcome.{Outcome, Gives}
use Rattle.outcome.specs.declared.Refusal.TheVariants.{R2}
use Rattle.outcome.proofs.Laws.{gives_same, r_gives}
use Rattle.octets.specs.Bytes.{byte}
use Rattle.octets.proofs.Laws.{small, bytes_of}
use Rattle.apdu_stated.specs.Reading.{read_of, read_by, say_of, lengths_of, extended_of, after_data}
use Rattle.response_stated.specs.Words.{Says, Remainder, rest, Response, Sent}
use Rattle.response_stated.specs.Responses.{write_response_of, read_response_of, response_body_of}
use Rattle.response_stated.specs.Parts.{limit_of, part_length, left_status, next_part_of}
use Rattle.response_stated.specs.Terms.{sending, sending_of, writing_of, whole, cut, last, nothing_left, some_left, more_left}
use Rattle.response_stated.specs.Fetching.{Fetch, also, none, up}
use Rattle.std.specs.Prelude.{Ok, Err}
use Rattle.response_stated.specs.Claims
use Rattle.response_stated.specs.Wrong

-- a byte of the buffer afterwards
buffer_is : {A : Type 0} (i : ℕ) (a b : Outcome A × List ℕ) → a ≡ b → byte a.1 i ≡ byte b.1 i
buffer_is i a b e = ap (λ (o : Outcome _ × List ℕ). byte o.1 i) e

-- ---- writers
pub status_first : Claims.WritesExactly Wrong.status_first → ⊥
status_first p = omega (arith, buffer_is 0 _ _ (p.writes (1 ∷ []) 0x9000 (0 ∷ 0 ∷ 0 ∷ []) (omega arith)))

pub low_byte_first : Claims.WritesExactly Wrong.low_byte_first → ⊥
low_byte_first p = omega (arith, buffer_is 0 _ _ (p.writes [] 0x9000 (0 ∷ 0 ∷ []) (omega arith)))

pub one_byte_on : Claims.WritesExactly Wrong.one_byte_on → ⊥
one_byte_on p = omega (arith, buffer_is 0 _ _ (p.writes [] 0x9000 (0 ∷ 0 ∷ 0 ∷ []) (omega arith)))

pub clears_the_rest : Claims.WritesExactly Wrong.clears_the_rest → ⊥
clears_the_rest p = omega (arith, buffer_is 2 _ _ (p.writes [] 0x9000 (0 ∷ 0 ∷ 7 ∷ []) (omega arith)))

pub no_room_for_status : Claims.WritesExactly Wrong.no_room_for_status → ⊥
no_room_for_status p = r_gives 2 2 (sym ((p.r2 [] 0x9000 []).1 (omega arith)))

-- what is written so, read by the right reader
pub low_byte_first_read : Claims.WrittenThenRead read_response_of response_body_of Wrong.low_byte_first → ⊥
unfolding read_response_of
low_byte_first_read p = omega (arith, ap (λ (r : Response). r.status) (gives_same _ _ (p [] 0x9000 (0 ∷ 0 ∷ []) 2 (omega arith) refl).0))

-- ---- readers
pub read_low_first : Claims.ReadsExactly Wrong.read_low_first → ⊥
read_low_first p =
    omega (arith, ap (λ (r : Response). r.status) (gives_same _ _ ((p.reads (0x90 ∷ 0x00 ∷ []) 0 0x9000).1 ([], refl, record { sw1 = 0x90; sw2 = 0x00; are = refl; is = refl }))))

pub body_with_status : Claims.ReadsExactly Wrong.body_with_status → ⊥
body_with_status p =
    omega (arith, ap (λ (r : Response). r.length) (gives_same _ _ ((p.reads (0x90 ∷ 0x00 ∷ []) 0 0x9000).1 ([], refl, record { sw1 = 0x90; sw2 = 0x00; are = refl; is = refl }))))

pub wants_a_body : Claims.ReadsExactly Wrong.wants_a_body → ⊥
wants_a_body p = let under : 2 < 2 = (p.r2 (0x90 ∷ 0x00 ∷ [])).0 refl in omega arith

pub cut_with_status : Claims.BodyExactly Wrong.cut_with_status → ⊥
cut_with_status p = omega (arith, ap length (p.before [] 0x90 0x00))

pub cut_one_short : Claims.BodyExactly Wrong.cut_one_short → ⊥
cut_one_short p = omega (arith, ap length (p.before (1 ∷ []) 0x90 0x00))

-- ---- frames to try
pub cut_with_status_written : Claims.ReadThenWritten read_response_of Wrong.cut_with_status writing_of → ⊥
unfolding read_response_of write_response_of small
cut_with_status_written p =
    r_gives 2 2 (ap (λ (o : Outcome ℕ × List ℕ). o.0) (p (0x90 ∷ 0x00 ∷ []) (0 ∷ 0 ∷ []) 0 0x9000 (bytes_of (0x90 ∷ 0x00 ∷ []) refl) refl (omega arith)))

-- a frame of version in a shape, with an Le
abbrev saying : (shape le : ℕ) → Says
saying shape le = record { header = record { cla = 0x00; ins = 0x03; p1 = 0x00; p2 = 0x00 }; shape = shape; data_at = 4; lc = 0; le = le }

-- ---- limits
pub extended_cut : Claims.LimitExactly Wrong.extended_cut → ⊥
extended_cut p = omega (arith, p.extended (saying 8 1) (omega arith))

pub small_le_is_short : Claims.LimitExactly Wrong.small_le_is_short → ⊥
small_le_is_short p = omega (arith, p.extended (saying 7 5) (omega arith))

pub absent_is_none : Claims.LimitExactly Wrong.absent_is_none → ⊥
absent_is_none p = omega (arith, p.absent (saying 1 0) (omega arith) refl)

pub absent_is_none_read : Claims.LimitOfFrames read_of Wrong.absent_is_none → ⊥
unfolding small read_by say_of lengths_of
absent_is_none_read p =
    let five : 5 ≤ 1 = (p.none (0x00 ∷ 0x03 ∷ 0x00 ∷ 0x00 ∷ []) (saying 1 0) (bytes_of (0x00 ∷ 0x03 ∷ 0x00 ∷ 0x00 ∷ []) refl) refl).0 refl in
    omega arith

pub extended_cut_read : Claims.LimitOfFrames read_of Wrong.extended_cut → ⊥
unfolding small read_by say_of lengths_of extended_of after_data
extended_cut_read p =
    let frame : List ℕ = 0x00 ∷ 0x03 ∷ 0x00 ∷ 0x00 ∷ 0x00 ∷ 0x00 ∷ 0x01 ∷ [] in
    omega (arith, (p.none frame (saying 8 1) (bytes_of frame refl) refl).1 (omega arith))

pub small_le_is_short_read : Claims.LimitOfFrames read_of Wrong.small_le_is_short → ⊥
unfolding small read_by say_of lengths_of extended_of after_data
small_le_is_short_read p =
    let frame : List ℕ = 0x00 ∷ 0x03 ∷ 0x00 ∷ 0x00 ∷ 0x00 ∷ 0x00 ∷ 0x00 ∷ 0x00 ∷ 0x05 ∷ [] in
    let said : Says = record { header = (saying 7 5).header; shape = 7; data_at = 7; lc = 0; le = 5 } in
    omega (arith, (p.none frame said (bytes_of frame refl) refl).1 (omega arith))

-- ---- nothing left
pub one_byte_left : Claims.NothingExactly Wrong.one_byte_left → ⊥
one_byte_left p = omega (arith, p.1)

pub nothing_at1 : Claims.NothingExactly Wrong.nothing_at1 → ⊥
nothing_at1 p = omega (arith, p.0)

-- ---- one part: two bytes, of which one goes out
left_is : (a b : Outcome Sent × List ℕ) (m n : ℕ) (x y : Remainder) → a.0 ≡ Gives (sending m x) → b.0 ≡ Gives (sending n y) → a ≡ b → x ≡ y
left_is a b m n x y p q e = ap (λ (s : Sent). s.remainder) (gives_same _ _ (sym p ∙ ap (λ (o : Outcome Sent × List ℕ). o.0) e ∙ q))

long_is : (a b : Outcome Sent × List ℕ) (m n : ℕ) (x y : Remainder) → a.0 ≡ Gives (sending m x) → b.0 ≡ Gives (sending n y) → a ≡ b → m ≡ n
long_is a b m n x y p q e = ap (λ (s : Sent). s.length) (gives_same _ _ (sym p ∙ ap (λ (o : Outcome Sent × List ℕ). o.0) e ∙ q))

pub counts_before : Claims.NextExactly Wrong.counts_before → ⊥
unfolding part_length left_status
counts_before p =
    omega (arith, buffer_is 2 _ _ (p.sends [] (1 ∷ []) (2 ∷ []) [] 1 0x6101 (0 ∷ 0 ∷ 0 ∷ []) (cut (omega arith) (omega arith)) (some_left (omega arith) (omega arith)) (omega arith)))

pub says_ff : Claims.NextExactly Wrong.says_ff → ⊥
unfolding part_length left_status
says_ff p =
    omega (arith, buffer_is 2 _ _ (p.sends [] (1 ∷ []) (replicate 256 0) [] 1 0x6100 (0 ∷ 0 ∷ 0 ∷ []) (cut (omega arith) (omega arith)) (more_left (omega arith)) (omega arith)))

pub from_the_start : Claims.NextExactly Wrong.from_the_start → ⊥
unfolding part_length left_status
from_the_start p =
    omega (arith, buffer_is 0 _ _ (p.sends (1 ∷ []) (2 ∷ []) [] [] 1 0x9000 (0 ∷ 0 ∷ 0 ∷ []) (last (omega arith) (omega arith)) nothing_left (omega arith)))

pub one_byte_short : Claims.NextExactly Wrong.one_byte_short → ⊥
unfolding next_part_of part_length left_status
one_byte_short p =
    omega (arith, long_is _ _ _ _ _ _ refl refl (p.sends [] (1 ∷ 2 ∷ []) [] [] 2 0x9000 (0 ∷ 0 ∷ 0 ∷ 0 ∷ []) (last (omega arith) (omega arith)) nothing_left (omega arith)))

pub one_byte_long : Claims.NextExactly Wrong.one_byte_long → ⊥
unfolding next_part_of part_length left_status
one_byte_long p =
    omega (arith, long_is _ _ _ _ _ _ refl refl (p.sends [] (1 ∷ []) (2 ∷ []) [] 1 0x6101 (0 ∷ 0 ∷ 0 ∷ 0 ∷ []) (cut (omega arith) (omega arith)) (some_left (omega arith) (omega arith)) (omega arith)))

pub does_not_move : Claims.NextExactly Wrong.does_not_move → ⊥
unfolding part_length left_status
does_not_move p =
    omega (arith, ap (λ (r : Remainder). r.place) (left_is _ _ _ _ _ _ refl refl (p.sends [] (1 ∷ []) [] [] 1 0x9000 (0 ∷ 0 ∷ 0 ∷ []) (last (omega arith) (omega arith)) nothing_left (omega arith))))

pub sends_status_first : Claims.NextExactly Wrong.sends_status_first → ⊥
unfolding part_length left_status
sends_status_first p =
    omega (arith, buffer_is 0 _ _ (p.sends [] (1 ∷ []) [] [] 1 0x9000 (0 ∷ 0 ∷ 0 ∷ []) (last (omega arith) (omega arith)) nothing_left (omega arith)))

-- place 1 and 2^64 - 1 bytes, of no body at all
pub wraps_the_sum : Claims.NextExactly Wrong.wraps_the_sum → ⊥
unfolding part_length left_status
wraps_the_sum p = r_gives 2 _ (sym ((p.r2 [] (rest 1 0xffffffffffffffff) 1 (0 ∷ 0 ∷ 0 ∷ [])).1 (inl (omega arith))))

pub refusal_writes : Claims.NextExactly Wrong.refusal_writes → ⊥
unfolding part_length left_status
refusal_writes p = omega (arith, ap (λ (l : List ℕ). byte l 0) (p.refused (1 ∷ []) (rest 0 1) 1 (0 ∷ 0 ∷ []) 2 refl))

-- ---- the truth
pub counts_before_told : Claims.TellsTheTruth Wrong.counts_before → ⊥
unfolding part_length left_status
counts_before_told p =
    omega (arith, (p.some (1 ∷ 2 ∷ []) (rest 0 2) 1 (0 ∷ 0 ∷ 0 ∷ []) (1 ∷ []) 0x6102 (rest 1 1) (record { says = refl; behind = []; holds = refl }) 2 (omega arith) (omega arith)).0 refl)

pub always9000 : Claims.TellsTheTruth Wrong.always9000 → ⊥
unfolding part_length
always9000 p =
    omega (arith, (p.done (1 ∷ 2 ∷ []) (rest 0 2) 1 (0 ∷ 0 ∷ 0 ∷ []) (1 ∷ []) 0x9000 (rest 1 1) (record { says = refl; behind = []; holds = refl })).0 refl)

pub does_not_move_told : Claims.TellsTheTruth Wrong.does_not_move → ⊥
unfolding part_length left_status
does_not_move_told p =
    omega (arith, (p.without_part (1 ∷ []) (rest 0 1) 1 (0 ∷ 0 ∷ 0 ∷ []) (1 ∷ []) 0x9000 (rest 0 1) (record { says = refl; behind = []; holds = refl })).0)

pub says_fftold : Claims.TellsTheTruth Wrong.says_ff → ⊥
unfolding part_length left_status
says_fftold p =
    omega (arith, (p.some (1 ∷ replicate 256 0) (rest 0 257) 1 (0 ∷ 0 ∷ 0 ∷ []) (1 ∷ []) 0x61ff (rest 1 256) (record { says = refl; behind = []; holds = refl }) 255 (omega arith) (omega arith)).0 refl)

-- ---- as much as Le says, and all of it to an extended frame
pub one_byte_long_asked : Claims.PartWithinLe limit_of Wrong.one_byte_long → ⊥
unfolding limit_of next_part_of part_length
one_byte_long_asked p =
    let over : 4 ≤ 3 = p.said (saying 2 1) (replicate 257 0) (rest 0 257) (replicate 259 0) 4 (rest 2 255) (omega arith) (omega arith) refl in
    omega arith

pub absent_is_none_asked : Claims.PartWithinLe Wrong.absent_is_none sending_of → ⊥
unfolding next_part_of part_length
absent_is_none_asked p =
    let over : 259 ≤ 258 = p.absent (saying 1 0) (replicate 257 0) (rest 0 257) (replicate 259 0) 259 (rest 257 0) (omega arith) refl refl in
    omega arith

pub extended_cut_asked : Claims.PartWithinLe Wrong.extended_cut sending_of → ⊥
unfolding next_part_of part_length
extended_cut_asked p = omega (arith, (p.extended (saying 8 1) (replicate 257 0) (rest 0 257) (replicate 259 0) 258 (rest 256 1) (omega arith) refl).1)

-- ---- the longest
pub one_byte_longest : Claims.LongestIs258 read_of limit_of Wrong.one_byte_long → ⊥
unfolding small read_by say_of lengths_of limit_of next_part_of part_length
one_byte_longest p =
    let frame : List ℕ = 0x00 ∷ 0x03 ∷ 0x00 ∷ 0x00 ∷ [] in
    let over : 259 ≤ 258 = p.within frame (saying 1 0) (replicate 257 0) (rest 0 257) (replicate 259 0) 259 (rest 257 0) (bytes_of frame refl) refl (omega arith) refl in
    omega arith

pub at_most255 : Claims.LongestIs258 read_of limit_of Wrong.at_most255 → ⊥
unfolding read_by say_of lengths_of limit_of next_part_of part_length
at_most255 p =
    let is : saying 1 0 ≡ p.reached.0 = gives_same _ _ p.reached.1 in
    let e : (Wrong.at_most255 (replicate 257 0) (rest 0 257) (limit_of (saying 1 0)) (replicate 258 0)).0 ≡ Gives (sending 258 (rest 256 1)) =
    ap (λ (s : Says). (Wrong.at_most255 (replicate 257 0) (rest 0 257) (limit_of s) (replicate 258 0)).0) is ∙ p.reached.2 in
    omega (arith, ap (λ (s : Sent). s.length) (gives_same _ _ e))

-- ---- the room for a first part
pub room_for_part_alone : Claims.RoomExactly Wrong.room_for_part_alone → ⊥
unfolding part_length
room_for_part_alone p = omega (arith, gives_same _ _ (p.said 1 0 0 (last (omega arith) (omega arith)) (omega arith)))

pub room_for_body : Claims.RoomExactly Wrong.room_for_body → ⊥
room_for_body p = omega (arith, gives_same _ _ (p.said 1 2 1 (cut (omega arith) (omega arith)) (omega arith)))

pub room_for_limit : Claims.RoomExactly Wrong.room_for_limit → ⊥
room_for_limit p = omega (arith, gives_same _ _ (p.said 2 1 1 (last (omega arith) (omega arith)) (omega arith)))

pub wraps_the_room : Claims.RoomExactly Wrong.wraps_the_room → ⊥
unfolding part_length
wraps_the_room p = r_gives 2 _ (sym (p.unsaid 0 0xfffffffffffffffe 0xfffffffffffffffe whole (omega arith)))

-- for a body of none too little; for two bytes at limit 1, and for one at limit 2, four where three are enough
pub room_for_part_alone_serves : Claims.RoomServes Wrong.room_for_part_alone sending_of → ⊥
unfolding next_part_of part_length
room_for_part_alone_serves p = p.enough 1 0 0 0 [] [] refl (omega arith) (omega arith) (omega arith) 2 refl

pub room_for_body_serves : Claims.RoomServes Wrong.room_for_body sending_of → ⊥
unfolding next_part_of part_length
room_for_body_serves p = r_gives 2 _ (sym (p.needed 1 2 4 (1 ∷ 2 ∷ []) (0 ∷ 0 ∷ 0 ∷ []) refl (omega arith) (omega arith)))

pub room_for_limit_serves : Claims.RoomServes Wrong.room_for_limit sending_of → ⊥
unfolding next_part_of part_length
room_for_limit_serves p = r_gives 2 _ (sym (p.needed 2 1 4 (1 ∷ []) (0 ∷ 0 ∷ 0 ∷ []) refl (omega arith) (omega arith)))

pub wraps_the_room_serves : Claims.RoomServes Wrong.wraps_the_room sending_of → ⊥
unfolding next_part_of part_length
wraps_the_room_serves p = p.enough 0 0xfffffffffffffffe 0 0 [] [] refl (omega arith) (omega arith) (omega arith) 2 refl

-- ---- all parts: two bytes, fetched one by one
abbrev ask : (limit : ℕ) → Fetch
ask limit = record { limit = limit; buffer = 0 ∷ 0 ∷ 0 ∷ 0 ∷ [] }

pub from_the_start_joined : Claims.PartsJoin Wrong.from_the_start → ⊥
unfolding part_length left_status
from_the_start_joined p = omega (arith, ap (λ (l : List ℕ). byte l 1) (p.so_far (1 ∷ 2 ∷ []) 2 (ask 1 ∷ ask 1 ∷ []) (omega arith)))

pub does_not_move_joined : Claims.PartsJoin Wrong.does_not_move → ⊥
unfolding part_length left_status
does_not_move_joined p = omega (arith, ap length (p.so_far (1 ∷ 2 ∷ []) 2 (ask 1 ∷ []) (omega arith)))

pub does_not_move_counted : Claims.NumberOfParts Wrong.does_not_move → ⊥
unfolding part_length left_status read_response_of
does_not_move_counted p =
    let over : 3 ≤ 2 = p.at_most (1 ∷ 2 ∷ []) 2 (ask 1 ∷ ask 1 ∷ ask 1 ∷ []) (omega arith) (omega arith) (also (inl (omega arith)) (also (inl (omega arith)) (also (inl (omega arith)) none))) in
    omega arith

pub one_at_a_time : Claims.NumberOfParts Wrong.one_at_a_time → ⊥
unfolding next_part_of part_length left_status read_response_of
one_at_a_time p =
    omega (arith, p.exactly (1 ∷ 2 ∷ []) 2 2 1 (ask 2 ∷ ask 2 ∷ []) (omega arith) (omega arith) (up 0 (omega arith) (omega arith)) (also (refl, omega arith) (also (refl, omega arith) none)) (omega arith))

-- ---- views
pub length_for_status : Claims.ReadSaidExactly Wrong.length_for_status → ⊥
length_for_status p = omega (arith, ap (λ (r : Response). r.length) (gives_same _ _ ((p.response (Ok (record { length = 1; status = 2 })) 1 2).1 refl)))

pub without_status_bytes : Claims.WrittenSaidExactly Wrong.without_status_bytes → ⊥
without_status_bytes p = omega (arith, gives_same _ _ ((p.response (Ok 2) 2).1 refl))

pub length_for_left : Claims.PartSaidExactly Wrong.length_for_left → ⊥
length_for_left p = omega (arith, ap (λ (s : Sent). s.remainder.count) (gives_same _ _ ((p.part (Ok (record { length = 3; remainder = rest 1 2 })) 3 (rest 1 2)).1 refl)))

pub refusal_for_room : Claims.RoomSaidExactly Wrong.refusal_for_room → ⊥
refusal_for_room p = r_gives 2 _ (sym ((p.refused (Err R2) R2).1 refl))
