-- The claim that is false of each wrong program, at a frame where it bites.
use Prim.Native.Nat.{ℕ}
use mathlib.Core.Path.{◌≡◌, refl, sym, ap, ◌∙◌}
use mathlib.Core.List.{List, [], ◌∷◌, ◌++◌}
use mathlib.Core.Logic.{inl, inr}
use native.Mathlib.Omega.{arith}
use lib.ListN.{length, replicate}
use Rattle.std.specs.Prelude.{Ok, Err}
use Rattle.outcome.specs.Outcome.{StatusWord, Outcome, R, Word, Gives}
use Rattle.outcome.specs.Terms.{HasStatus}
use Rattle.outcome.proofs.Laws.{gives_same, word_same, word_gives}
use Rattle.octets.specs.Bytes.{byte, part_of}
use Rattle.apdu_stated.specs.Answers.{Says}
use Rattle.apdu_stated.specs.declared.Apdu.{Apdu}
use Rattle.apdu_stated.specs.Reading.{read_by, say_of, lengths_of, short_of, extended_of, after_data, data_of}
use Rattle.apdu_stated.specs.Terms.{saying, frame_with, apdu_of}
use Rattle.apdu_stated.specs.declared.Case.TheVariants.{Lc1Data}
use Rattle.apdu_stated.specs.declared.ApduHeader.{ApduHeader}
use Rattle.apdu_stated.specs.declared.Place.{Place}
use Rattle.command_stated.specs.Command.{Command, Register, Authenticate, Version, GetResponse, register_of, authenticate_of, version_of, by_instruction, on_reading, command_of, challenge_place_of, application_place_of, challenge_of, application_of, handle_of}
use Rattle.command_stated.specs.Terms.{of_register, other_handle, of_p2}
use Rattle.outcome.specs.declared.ApduStatusCode.TheVariants as Status'
use Rattle.outcome.specs.declared.LengthFault.TheVariants as Fault'
use Rattle.command_stated.specs.declared.U2fCommand.TheVariants as U2fCommand'
use Rattle.command_stated.specs.Claims
use Rattle.command_stated.specs.Wrong

-- ---- frames to try: CLA, INS, P1, 00, and Lc bytes of data in shape 3
abbrev head : ℕ → ℕ → ℕ → ApduHeader
head cla ins p1 = record { cla = cla; ins = ins; p1 = p1; p2 = 0x00 }

abbrev try : ApduHeader → List ℕ → List ℕ
try h d = frame_with h (length d ∷ d)

abbrev said : ApduHeader → List ℕ → Says
said h d = saying h 3 5 (length d) 0

-- data of so many zeros; 64 zeros and a length byte; that, and the handle's bytes
abbrev zeros : ℕ → List ℕ
zeros n = replicate n 0

abbrev handled : ℕ → List ℕ → List ℕ
handled n handle = replicate 64 0 ++ n ∷ handle

-- ---- status words: number, kind and place
number_is : (v w : StatusWord) → ◌≡◌ {A = Outcome Command} (Word v) (Word w) → v.number ≡ w.number
number_is v w e = ap (λ (x : StatusWord). x.number) (word_same v w e)

kind_is : (v w : StatusWord) → ◌≡◌ {A = Outcome Command} (Word v) (Word w) → v.kind ≡ w.kind
kind_is v w e = ap (λ (x : StatusWord). x.kind) (word_same v w e)

place_is : (v w : StatusWord) → ◌≡◌ {A = Outcome Command} (Word v) (Word w) → v.place ≡ w.place
place_is v w e = ap (λ (x : StatusWord). x.place) (word_same v w e)

word_number : {v : StatusWord} → HasStatus {A = Command} 0x6700 (Word v) → v.number ≡ 0x6700
word_number t = number_is _ _ t.is ∙ t.numbered

-- ---- the order
pub register_before_class : Claims.ClassExactly Wrong.register_before_class → ⊥
unfolding read_by say_of lengths_of short_of register_of
register_before_class exact =
    let h = head 0x01 0x01 0x00 in
    omega (arith, number_is _ _ ((exact (try h (zeros 63))).1 (said h (zeros 63), refl, λ e. omega arith)))

pub authenticate_before_class : Claims.ClassExactly Wrong.authenticate_before_class → ⊥
unfolding read_by say_of lengths_of short_of authenticate_of
authenticate_before_class exact =
    let h = head 0x01 0x02 0x03 in
    omega (arith, number_is _ _ ((exact (try h (zeros 64))).1 (said h (zeros 64), refl, λ e. omega arith)))

pub version_before_class : Claims.ClassExactly Wrong.version_before_class → ⊥
unfolding read_by say_of lengths_of short_of version_of
version_before_class exact =
    let h = head 0x01 0x03 0x00 in
    omega (arith, number_is _ _ ((exact (try h (zeros 1))).1 (said h (zeros 1), refl, λ e. omega arith)))

pub instruction_before_class : Claims.ClassExactly Wrong.instruction_before_class → ⊥
unfolding read_by say_of lengths_of short_of
instruction_before_class exact =
    let h = head 0x01 0x40 0x00 in
    omega (arith, number_is _ _ ((exact (try h (zeros 1))).1 (said h (zeros 1), refl, λ e. omega arith)))

pub class_not_looked_at : Claims.ClassExactly Wrong.class_not_looked_at → ⊥
unfolding read_by say_of lengths_of short_of register_of
class_not_looked_at exact =
    let h = head 0x01 0x01 0x00 in
    word_gives _ _ (sym ((exact (try h (zeros 64))).1 (said h (zeros 64), refl, λ e. omega arith)))

pub short_frame_gets6700 : Claims.ControlExactly Wrong.short_frame_gets6700 → ⊥
short_frame_gets6700 exact = omega (arith, number_is _ _ ((exact (0x00 ∷ 0x03 ∷ 0x00 ∷ [])).1 (inl (omega arith))))

-- ---- Register
pub register_looks_at_p1 : Claims.RegisterExactly Wrong.register_looks_at_p1 → ⊥
unfolding read_by say_of lengths_of short_of
register_looks_at_p1 exact =
    let h = head 0x00 0x01 0xFF in
    word_gives _ _ ((exact (try h (zeros 64)) (said h (zeros 64))).1 (refl, refl, refl, refl))

pub register_of65 : Claims.RegisterExactly Wrong.register_of65 → ⊥
unfolding read_by say_of lengths_of short_of
register_of65 exact =
    let h = head 0x00 0x01 0x00 in
    omega (arith, ((exact (try h (zeros 65)) (said h (zeros 65))).0 refl).3)

-- ---- Authenticate
pub empty_handle_refused : Claims.AuthenticateExactly Wrong.empty_handle_refused → ⊥
unfolding read_by say_of lengths_of short_of data_of part_of
empty_handle_refused exact =
    let h = head 0x00 0x02 0x03 in
    word_gives _ _ ((exact (try h (zeros 65)) 0x03 (said h (zeros 65))).1 (refl, refl, refl, omega arith, refl, refl, refl))

pub length_byte_uncounted : Claims.AuthenticateExactly Wrong.length_byte_uncounted → ⊥
unfolding read_by say_of lengths_of short_of data_of part_of
length_byte_uncounted exact =
    let h = head 0x00 0x02 0x03 in
    word_gives _ _ ((exact (try h (zeros 65)) 0x03 (said h (zeros 65))).1 (refl, refl, refl, omega arith, refl, refl, refl))

pub enforce_said_as_check_only : Claims.AuthenticateExactly Wrong.enforce_said_as_check_only → ⊥
unfolding read_by say_of lengths_of short_of data_of part_of
enforce_said_as_check_only exact =
    let h = head 0x00 0x02 0x03 in
    omega (arith, ((exact (try h (zeros 65)) 0x07 (said h (zeros 65))).0 refl).6)

pub control_before_length : Claims.LengthExactly Wrong.control_before_length → ⊥
unfolding read_by say_of lengths_of short_of data_of part_of
control_before_length exact =
    let h = head 0x00 0x02 0x00 in
    let d = handled 1 [] in
    omega (arith, word_number ((exact (try h d)).1 (inr (said h d, refl, refl, other_handle refl (omega arith) (λ e. omega arith)))))

pub any_control : Claims.ControlExactly Wrong.any_control → ⊥
unfolding read_by say_of lengths_of short_of data_of part_of
any_control exact =
    let h = head 0x00 0x02 0x00 in
    word_gives _ _ (sym ((exact (try h (zeros 65))).1
    (inr (said h (zeros 65), refl, refl, record { ins = refl; long = omega arith; fits = refl; not_03 = λ e. omega arith; not_07 = λ e. omega arith; not_08 = λ e. omega arith }))))

-- ---- the others
pub vendor_as_version : Claims.InstructionExactly Wrong.vendor_as_version → ⊥
unfolding read_by say_of lengths_of short_of
vendor_as_version exact =
    let h = head 0x00 0x40 0x00 in
    word_gives _ _ (sym ((exact (try h (zeros 1))).1 (said h (zeros 1), refl, refl, record { not_01 = λ e. omega arith; not_02 = λ e. omega arith; not_03 = λ e. omega arith; not_C0 = λ e. omega arith })))

pub version_with_data : Claims.VersionExactly Wrong.version_with_data → ⊥
unfolding read_by say_of lengths_of short_of
version_with_data exact =
    let h = head 0x00 0x03 0x00 in
    let t = (exact (try h (zeros 1))).0 refl in
    let same : said h (zeros 1) ≡ t.0 = gives_same _ _ t.1 in
    omega (arith, ap (λ (s : Says). s.lc) same, t.4)

pub unknown_by_length : Claims.InstructionExactly Wrong.unknown_by_length → ⊥
unfolding read_by say_of lengths_of short_of version_of
unknown_by_length exact =
    let h = head 0x00 0x40 0x00 in
    omega (arith, number_is _ _ ((exact (try h (zeros 1))).1 (said h (zeros 1), refl, refl, record { not_01 = λ e. omega arith; not_02 = λ e. omega arith; not_03 = λ e. omega arith; not_C0 = λ e. omega arith })))

-- ---- GET RESPONSE
abbrev fetching : ℕ → ApduHeader
fetching p2 = record { cla = 0x00; ins = 0xC0; p1 = 0x00; p2 = p2 }

pub three_commands : Claims.GetResponseExactly Wrong.three_commands → ⊥
unfolding read_by say_of lengths_of short_of
three_commands exact = word_gives _ _ ((exact (frame_with (fetching 0x00) [])).1 (saying (fetching 0x00) 1 4 0 0, refl, refl, refl, refl, refl, refl))

pub p2_not_looked_at : Claims.ParametersExactly Wrong.p2_not_looked_at → ⊥
unfolding read_by say_of lengths_of short_of
p2_not_looked_at exact = word_gives _ _ (sym ((exact (frame_with (fetching 0x01) [])).1 (saying (fetching 0x01) 1 4 0 0, refl, refl, of_p2 refl (λ e. omega arith))))

pub fetch_length_first : Claims.ParametersExactly Wrong.fetch_length_first → ⊥
unfolding read_by say_of lengths_of short_of
fetch_length_first exact = omega (arith, number_is _ _ ((exact (try (fetching 0x01) (zeros 1))).1 (said (fetching 0x01) (zeros 1), refl, refl, of_p2 refl (λ e. omega arith))))

pub on_reading_drops : Claims.OnReadingExactly Wrong.on_reading_drops → ⊥
on_reading_drops exact = omega (arith, kind_is _ _ (exact.status [] (record { number = 0x6700; kind = 1; place = 6 })))

pub on_reading_unknown : Claims.OnReadingExactly Wrong.on_reading_unknown → ⊥
on_reading_unknown exact = omega (arith, number_is _ _ (exact.status [] (record { number = 0x6700; kind = 1; place = 6 })))

-- ---- the pair: a Register of shape 5 with one byte of data; `00 01`; a Register of one byte
pub extended_at5 : Claims.AgainstInsExactly Wrong.extended_at5 → ⊥
unfolding read_by say_of lengths_of extended_of after_data by_instruction register_of
extended_at5 exact =
    let h = head 0x00 0x01 0x00 in
    omega (arith, place_is _ _ ((exact (frame_with h (0 ∷ 0 ∷ 1 ∷ 0xAA ∷ []))).1 (saying h 5 7 1 0, refl, refl, of_register refl (λ e. omega arith))))

pub instructed_at5 : Claims.InstructedExactly Wrong.instructed_at5 → ⊥
unfolding by_instruction register_of
instructed_at5 exact =
    let h = head 0x00 0x01 0x00 in
    omega (arith, place_is _ _ ((exact.against_ins [] (saying h 5 7 1 0)).1 (refl, of_register refl (λ e. omega arith))))

pub instructed_without_class : Claims.InstructedExactly Wrong.instructed_without_class → ⊥
unfolding by_instruction version_of
instructed_without_class exact =
    let h = head 0x80 0x03 0x00 in
    word_gives _ _ (sym ((exact.class [] (saying h 1 4 0 0)).1 (λ e. omega arith)))

pub own_pair_dropped : Claims.CarriedExactly Wrong.own_pair_dropped → ⊥
unfolding read_by say_of lengths_of extended_of
own_pair_dropped exact = omega (arith, kind_is _ _ ((exact (frame_with (head 0x00 0x01 0x00) (0 ∷ 1 ∷ [])) 1 6 (λ e. omega arith)).1 refl))

pub own_pair_as_third : Claims.CarriedExactly Wrong.own_pair_as_third → ⊥
unfolding read_by say_of lengths_of extended_of
own_pair_as_third exact = omega (arith, kind_is _ _ ((exact (frame_with (head 0x00 0x01 0x00) (0 ∷ 1 ∷ [])) 1 6 (λ e. omega arith)).1 refl))

pub third_without_pair : Claims.CommandPairsExactly Wrong.third_without_pair → ⊥
unfolding read_by say_of lengths_of short_of by_instruction register_of on_reading command_of
third_without_pair exact = omega (arith, (exact.paired (try (head 0x00 0x01 0x00) (zeros 1)) _ refl refl).0)

-- ---- the parts: a Register of 32 ones and 32 twos, and an Authenticate with a handle of one byte
abbrev enrols : List ℕ
enrols = replicate 32 1 ++ replicate 32 2

pub application_is_the_challenge : Claims.RegisterParts command_of challenge_of Wrong.application_is_the_challenge → ⊥
unfolding read_by say_of lengths_of short_of register_of by_instruction on_reading command_of data_of challenge_of part_of
application_is_the_challenge parts =
    let h = head 0x00 0x01 0x00 in
    omega (arith, ap (λ (l : List ℕ). byte l 32) (parts (try h enrols) (said h enrols) refl).0)

pub application_of33 : Claims.ApplicationExactly Wrong.application_of33 → ⊥
unfolding part_of
application_of33 exact = let h = head 0x00 0x02 0x03 in omega (arith, ap length (exact (try h (handled 1 (7 ∷ []))) (said h (handled 1 (7 ∷ [])))))

pub challenge_late : Claims.ChallengeExactly Wrong.challenge_late → ⊥
unfolding part_of
challenge_late exact = let h = head 0x00 0x01 0x00 in omega (arith, ap (λ (l : List ℕ). byte l 31) (exact (try h enrols) (said h enrols)))

pub challenge_of31 : Claims.ChallengeExactly Wrong.challenge_of31 → ⊥
unfolding part_of
challenge_of31 exact = let h = head 0x00 0x01 0x00 in omega (arith, ap length (exact (try h enrols) (said h enrols)))

pub handle_one_byte_late : Claims.HandleExactly Wrong.handle_one_byte_late → ⊥
unfolding part_of
handle_one_byte_late exact = let h = head 0x00 0x02 0x03 in omega (arith, ap length (exact (try h (handled 1 (7 ∷ []))) (said h (handled 1 (7 ∷ [])))))

pub handle_empty : Claims.HandleExactly Wrong.handle_empty → ⊥
unfolding part_of
handle_empty exact = let h = head 0x00 0x02 0x03 in omega (arith, ap length (exact (try h (handled 1 (7 ∷ []))) (said h (handled 1 (7 ∷ [])))))

-- shape 4, with an Le of 9
pub handle_with_the_le : Claims.AuthenticateParts command_of challenge_of application_of Wrong.handle_with_the_le → ⊥
unfolding read_by say_of lengths_of short_of authenticate_of by_instruction on_reading command_of data_of challenge_of application_of part_of
handle_with_the_le parts =
    let h = head 0x00 0x02 0x03 in
    let d = handled 1 (7 ∷ []) in
    omega (arith, ap length (parts (frame_with h (length d ∷ (d ++ 9 ∷ []))) 0x03 (saying h 4 5 (length d) 9) refl).0)

-- ---- the numbers
abbrev one : Says
one = said (head 0x00 0x02 0x03) (handled 1 (7 ∷ []))

start_is : (a b : Place) → a ≡ b → a.start ≡ b.start
start_is a b e = ap (λ (p : Place). p.start) e

end_is : (a b : Place) → a ≡ b → a.end ≡ b.end
end_is a b e = ap (λ (p : Place). p.end) e

pub challenge_from_the_header : Claims.ChallengePlaceExactly Wrong.challenge_from_the_header → ⊥
challenge_from_the_header exact = omega (arith, start_is _ _ (exact one))

pub challenge_place31 : Claims.ChallengePlaceExactly Wrong.challenge_place31 → ⊥
challenge_place31 exact = omega (arith, end_is _ _ (exact one))

pub application_place_first : Claims.ApplicationPlaceExactly Wrong.application_place_first → ⊥
application_place_first exact = omega (arith, start_is _ _ (exact one))

pub application_place_to_the_end : Claims.ApplicationPlaceExactly Wrong.application_place_to_the_end → ⊥
application_place_to_the_end exact = omega (arith, end_is _ _ (exact one))

pub handle_place_late : Claims.HandlePlaceExactly Wrong.handle_place_late → ⊥
handle_place_late exact = omega (arith, start_is _ _ (exact one))

pub handle_place_with_the_le : Claims.HandlePlaceExactly Wrong.handle_place_with_the_le → ⊥
handle_place_with_the_le exact = omega (arith, end_is _ _ (exact one))

-- the numbers and the parts apart, and numbers past the end, at an Authenticate of shape 3 with a handle of one byte
pub handle_numbers_early : Claims.CutAtPlaces challenge_of application_of handle_of challenge_place_of application_place_of Wrong.handle_numbers_early → ⊥
unfolding handle_of part_of
handle_numbers_early cut = omega (arith, ap length (cut.handle_cut (try (head 0x00 0x02 0x03) (handled 1 (7 ∷ []))) one))

pub handle_past_the_end : Claims.CutAtPlaces challenge_of application_of handle_of challenge_place_of application_place_of Wrong.handle_past_the_end → ⊥
unfolding read_by say_of lengths_of short_of authenticate_of by_instruction on_reading command_of data_of part_of
handle_past_the_end cut = omega (arith, (cut.authenticate_within (try (head 0x00 0x02 0x03) (handled 1 (7 ∷ []))) 0x03 one refl).4)

-- ---- the control byte
pub enforce_numbered07 : Claims.FlagsNumberExactly Wrong.enforce_numbered07 → ⊥
enforce_numbered07 exact = omega (arith, exact.enforce)

pub numbered_by_place : Claims.FlagsNumberExactly Wrong.numbered_by_place → ⊥
numbered_by_place exact = omega (arith, exact.check_only)

-- ---- views
named : Outcome Command → ℕ
named (Gives (Register s)) = 1
named (Gives (Authenticate p s)) = 2
named (Gives Version) = 3
named (Gives GetResponse) = 4
named (Word w) = w.kind
named (R n) = 0

pub version_for_fetch : Claims.SaidExactly Wrong.version_for_fetch → ⊥
unfolding named
version_for_fetch exact = omega (arith, ap named ((exact.version (Ok U2fCommand'.Version)).1 refl))

pub register_for_login : Claims.SaidExactly Wrong.register_for_login → ⊥
unfolding named
register_for_login exact =
    let a : Apdu = apdu_of (head 0x00 0x01 0x00) Lc1Data 64 0 in
    omega (arith, ap named ((exact.register (Ok (U2fCommand'.Register a)) a).1 refl))

pub pair_unsaid : Claims.SaidExactly Wrong.pair_unsaid → ⊥
unfolding named
pair_unsaid exact = omega (arith, ap named ((exact.status (Err (Status'.WrongLength Fault'.Surplus 9)) (Status'.WrongLength Fault'.Surplus 9)).1 refl))
