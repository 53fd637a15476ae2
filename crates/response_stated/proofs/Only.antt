-- Only the definitions meet the claims: two programs that meet one agree.
use Prim.Native.Nat.{ℕ, ◌+◌, ◌-◌, ◌*◌, ◌<◌, ◌≤◌}
use mathlib.Core.Path.{◌≡◌, refl, ap, ap₂, sym, subst, ◌∙◌}
use mathlib.Core.List.{List, ◌++◌}
use mathlib.Core.Logic.{inl, inr}
use native.Mathlib.Omega.{arith}
use native.Mathlib.Decide.{dec_lt, ℕ_discrete}
use lib.ListN.{length, take, drop, take-append-drop}
use lib.Seq.{drop-drop, length-take-le}
use Rattle.outcome.specs.Notation.{Determines, Determines2, Determines3}
use Rattle.outcome.specs.Outcome.{Outcome, R, Gives}
use Rattle.octets.specs.Bytes.{byte}
use Rattle.octets.proofs.Laws.{length_part}
use Rattle.response_stated.specs.Words.{Remainder, rest, Response}
use Rattle.response_stated.specs.Responses.{response_body_of}
use Rattle.response_stated.specs.Parts.{part_length, left_status}
use Rattle.response_stated.specs.Terms.{Writer, Sender, reading, sending, spelled, Goes}
use Rattle.std.specs.Prelude.{Ok, Err}
use Rattle.response_stated.specs.Claims
use Rattle.response_stated.proofs.Theorems.{goes, tells}
use Rattle.response_stated.proofs.OnBytes.{pair_is, split}
use Rattle.response_stated.proofs.Ways.{part_most}

pub WritesExactly : Determines3 Claims.WritesExactly
WritesExactly f g p q body status old = go (dec_lt (length old) (length body + 2))
  where
    none : (w : Writer) → Claims.WritesExactly w → length old < length body + 2 → w body status old ≡ (R 2, old)
    none w r h = let e = (r.r2 body status old).1 h in pair_is _ _ _ _ e (r.refused body status old 2 e)

    go : Dec (length old < length body + 2) → f body status old ≡ g body status old
    go (yes h) = none f p h ∙ sym (none g q h)
    go (no n) = p.writes body status old (omega arith) ∙ sym (q.writes body status old (omega arith))

pub ReadsExactly : Determines Claims.ReadsExactly
ReadsExactly f g p q bytes = go (dec_lt (length bytes) 2)
  where
    here : (read : List ℕ → Outcome Response) → Claims.ReadsExactly read → 2 ≤ length bytes
        → read bytes ≡ Gives (reading (length (response_body_of bytes)) (byte bytes (length bytes - 2) * 256 + byte bytes (length bytes - 2 + 1)))
    here read r some = (r.reads bytes _ _).1 (response_body_of bytes, refl, record { sw1 = _; sw2 = _; are = split bytes some; is = refl })

    go : Dec (length bytes < 2) → f bytes ≡ g bytes
    go (yes h) = (p.r2 bytes).1 h ∙ sym ((q.r2 bytes).1 h)
    go (no n) = here f p (omega arith) ∙ sym (here g q (omega arith))

pub BodyExactly : Determines Claims.BodyExactly
BodyExactly f g p q bytes = go (dec_lt (length bytes) 2)
  where
    here : (cut : List ℕ → List ℕ) → Claims.BodyExactly cut → 2 ≤ length bytes → cut bytes ≡ response_body_of bytes
    here cut r some = ap cut (split bytes some) ∙ r.before (response_body_of bytes) _ _

    go : Dec (length bytes < 2) → f bytes ≡ g bytes
    go (yes h) = p.under bytes h ∙ sym (q.under bytes h)
    go (no n) = here f p (omega arith) ∙ sym (here g q (omega arith))

pub LimitExactly : Determines Claims.LimitExactly
LimitExactly f g p q says = go (dec_lt 4 says.shape) (ℕ_discrete says.le 0)
  where
    go : Dec (4 < says.shape) → Dec (says.le ≡ 0) → f says ≡ g says
    go (yes h) d = p.extended says (omega arith) ∙ sym (q.extended says (omega arith))
    go (no n) (yes z) = p.absent says (omega arith) z ∙ sym (q.absent says (omega arith) z)
    go (no n) (no z) = p.said says (omega arith) (omega arith) ∙ sym (q.said says (omega arith) (omega arith))

pub NothingExactly : (a b : Remainder) → Claims.NothingExactly a → Claims.NothingExactly b → a ≡ b
NothingExactly a b p q = let places = p.0 ∙ sym q.0 in let counts = p.1 ∙ sym q.1 in λ d. record { place = places d; count = counts d }

-- a body that holds its remainder, in four pieces: before the part, the part, what is left, behind it
pieces : (body : List ℕ) (place n left : ℕ)
    → body ≡ take place body ++ (take n (drop place body) ++ (take left (drop (place + n) body) ++ drop (place + n + left) body))
pieces body place n left =
    sym (take-append-drop place body)
    ∙ ap (λ (l : List ℕ). take place body ++ l)
    (sym (take-append-drop n (drop place body))
    ∙ ap (λ (l : List ℕ). take n (drop place body) ++ l)
    (drop-drop n place body
    ∙ sym (take-append-drop left (drop (place + n) body))
    ∙ ap (λ (l : List ℕ). take left (drop (place + n) body) ++ l) (drop-drop left (place + n) body)))

-- what every sender that meets the claim sends, where there is room
sends_at : (next : Sender) → Claims.NextExactly next → (body before part left behind : List ℕ) (r : Remainder) (limit : ℕ) (old : List ℕ)
    → body ≡ before ++ (part ++ (left ++ behind)) → r ≡ rest (length before) (length part + length left)
    → part_length limit (length part + length left) ≡ length part → length part + 2 ≤ length old
    → next body r limit old
    ≡ (Gives (sending (length part + 2) (rest (length before + length part) (length left))), spelled part (left_status (length left)) ++ drop (length part + 2) old)
sends_at next x body before part left behind r limit old is_is_body is_r is_n room =
    let g : Goes limit (length part + length left) (length part) = subst (Goes limit (length part + length left)) is_n (goes limit (length part + length left)) in
    ap₂ (λ (b : List ℕ) (y : Remainder). next b y limit old) is_is_body is_r
    ∙ x.sends before part left behind limit (left_status (length left)) old g (tells (length left)) room

pub NextExactly : (f g : Sender) → Claims.NextExactly f → Claims.NextExactly g
    → (body : List ℕ) (r : Remainder) (limit : ℕ) (old : List ℕ) → f body r limit old ≡ g body r limit old
NextExactly f g p q body r limit old = go (dec_lt (length body) (r.place + r.count)) (dec_lt (length old) (part_length limit r.count + 2))
  where
    none : (s : Sender) → Claims.NextExactly s → (s body r limit old).0 ≡ R 2 → s body r limit old ≡ (R 2, old)
    none s x e = pair_is _ _ _ _ e (x.refused body r limit old 2 e)

    go : Dec (length body < r.place + r.count) → Dec (length old < part_length limit r.count + 2) → f body r limit old ≡ g body r limit old
    go (yes h) d = none f p ((p.r2 body r limit old).1 (inl h)) ∙ sym (none g q ((q.r2 body r limit old).1 (inl h)))
    go (no h) (yes s) =
        let n = part_length limit r.count in
        none f p ((p.r2 body r limit old).1 (inr (n, goes limit r.count, s))) ∙ sym (none g q ((q.r2 body r limit old).1 (inr (n, goes limit r.count, s))))
    go (no h) (no s) =
        let n = part_length limit r.count in
        let most : n ≤ r.count = part_most limit r.count in
        let before = take r.place body in
        let part = take n (drop r.place body) in
        let left = take (r.count - n) (drop (r.place + n) body) in
        let behind = drop (r.place + n + (r.count - n)) body in
        let before_long : length before ≡ r.place = length-take-le r.place body (omega arith) in
        let part_long : length part ≡ n = length_part r.place n body (omega arith) in
        let left_long : length left ≡ r.count - n = length_part (r.place + n) (r.count - n) body (omega arith) in
        let all : length part + length left ≡ r.count = omega arith in
        let is_r : r ≡ rest (length before) (length part + length left) = ap₂ rest (sym before_long) (sym all) in
        let is_n : part_length limit (length part + length left) ≡ length part = ap (part_length limit) all ∙ sym part_long in
        let is_is_body = pieces body r.place n (r.count - n) in
        sends_at f p body before part left behind r limit old is_is_body is_r is_n (omega arith)
        ∙ sym (sends_at g q body before part left behind r limit old is_is_body is_r is_n (omega arith))

pub RoomExactly : Determines2 Claims.RoomExactly
RoomExactly f g p q limit longest = go (dec_lt (part_length limit longest + 2) 0x10000000000000000)
  where
    go : Dec (part_length limit longest + 2 < 0x10000000000000000) → f limit longest ≡ g limit longest
    go (yes h) = p.said limit longest _ (goes limit longest) h ∙ sym (q.said limit longest _ (goes limit longest) h)
    go (no h) = p.unsaid limit longest _ (goes limit longest) (omega arith) ∙ sym (q.unsaid limit longest _ (goes limit longest) (omega arith))

-- ---- views
pub ReadSaidExactly : Determines Claims.ReadSaidExactly
ReadSaidExactly f g p q (Err why) = (p.refused _ why).1 refl ∙ sym ((q.refused _ why).1 refl)
ReadSaidExactly f g p q (Ok read) = (p.response _ read.length read.status).1 refl ∙ sym ((q.response _ read.length read.status).1 refl)

pub WrittenSaidExactly : Determines Claims.WrittenSaidExactly
WrittenSaidExactly f g p q (Err why) = (p.refused _ why).1 refl ∙ sym ((q.refused _ why).1 refl)
WrittenSaidExactly f g p q (Ok n) = (p.response _ n).1 refl ∙ sym ((q.response _ n).1 refl)

pub PartSaidExactly : Determines Claims.PartSaidExactly
PartSaidExactly f g p q (Err why) = (p.refused _ why).1 refl ∙ sym ((q.refused _ why).1 refl)
PartSaidExactly f g p q (Ok sent) = (p.part _ sent.length sent.remainder).1 refl ∙ sym ((q.part _ sent.length sent.remainder).1 refl)

pub RoomSaidExactly : Determines Claims.RoomSaidExactly
RoomSaidExactly f g p q (Err why) = (p.refused _ why).1 refl ∙ sym ((q.refused _ why).1 refl)
RoomSaidExactly f g p q (Ok n) = (p.bytes _ n).1 refl ∙ sym ((q.bytes _ n).1 refl)
