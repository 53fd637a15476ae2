-- What is promised of byte strings beyond the contracts. Proved in proofs/Theorems.antt; that only the definitions meet it, in
-- proofs/Only.antt; that the programs of Wrong.antt do not, in proofs/Refuted.antt.
use Rattle.std.specs.Prelude.{ℕ, ◌+◌, ◌/◌, ◌%◌, ◌-◌, ◌≤◌, ◌<◌, ◌≡◌, Bool, true, List, [], ◌++◌, ◌↔◌, length, drop}
use Rattle.outcome.specs.Notation.{AtMostOne}
use Rattle.octets.specs.Bytes.{byte}
use Rattle.octets.specs.Promises.{Wide, Pair, Put, PutByte, PutPair, PutWord, AllZero, Part}

-- With room, what is written stands at the front and the rest of the buffer is as it was.
-- 01: "A 9000 body fills the front of the buffer; the rest stays". Rejects a writer that clears the rest. Bites at one byte
-- written into a buffer of two.
abbrev pub LaidAtFront : (List ℕ → List ℕ → List ℕ) → Type 0
LaidAtFront lay = (s old : List ℕ) → length s ≤ length old → lay s old ≡ s ++ drop (length s) old

-- Byte by byte, with room or without: the buffer stays as long as it was, its front is what was written, its rest is kept. Ours:
-- what does not fit is left out. Rejects a writer that writes nothing, one that repeats its first byte, and one that spares the
-- buffer's last byte.
pub record LaidExactly (lay : List ℕ → List ℕ → List ℕ) : Type 0 where
  pub as_long : (s old : List ℕ) → length (lay s old) ≡ length old
  pub front : (s old : List ℕ) (i : ℕ) → i < length s → i < length old → byte (lay s old) i ≡ byte s i
  pub rest : (s old : List ℕ) (i : ℕ) → length s ≤ i → byte (lay s old) i ≡ byte old i

-- 01: "Numbers of two bytes are big-endian". Rejects the low byte first. Bites at 1.
pub record TwoBytesExactly (bytes : ℕ → List ℕ) : Type 0 where
  pub two : (n : ℕ) → length (bytes n) ≡ 2
  pub high : (n : ℕ) → byte (bytes n) 0 ≡ n / 256
  pub low : (n : ℕ) → byte (bytes n) 1 ≡ n % 256

-- 01, the counter: "(4, big-endian)". Rejects the low byte first, and a byte that is lost. Bites at 0x01020304.
pub record FourBytesExactly (bytes : ℕ → List ℕ) : Type 0 where
  pub four : (n : ℕ) → length (bytes n) ≡ 4
  pub first : (n : ℕ) → byte (bytes n) 0 ≡ n / 0x1000000
  pub second : (n : ℕ) → byte (bytes n) 1 ≡ n / 0x10000 % 0x100
  pub third : (n : ℕ) → byte (bytes n) 2 ≡ n / 0x100 % 0x100
  pub fourth : (n : ℕ) → byte (bytes n) 3 ≡ n % 0x100

-- Two bytes read as a number are the number that is written so. Rejects the low byte first. Bites at 00 01.
abbrev pub PairBack : (ℕ → ℕ → ℕ) → Type 0
PairBack pair = (n : ℕ) → n < 65536 → pair (n / 256) (n % 256) ≡ n

-- A byte as a length is itself. Rejects one that drops the top bit. Bites at 128.
abbrev pub WideSame : (ℕ → ℕ) → Type 0
WideSame wide = (b : ℕ) → b < 256 → wide b ≡ b

-- 01: "zero after their end". Every byte is looked at. Rejects a test of the first byte alone. Bites at 00 01.
abbrev pub ZeroExactly : (List ℕ → Bool) → Type 0
ZeroExactly test = (s : List ℕ) → (test s ≡ true) ↔ ((i : ℕ) → byte s i ≡ 0)

-- Ours: a part is its bytes one by one where it lies within the list, and else empty. Rejects a part that is empty where it ends
-- with the list. Bites at the whole of a list.
pub record PartExactly (part : List ℕ → ℕ → ℕ → List ℕ) : Type 0 where
  pub as_long : (s : List ℕ) (start end : ℕ) → start ≤ end → end ≤ length s → length (part s start end) ≡ end - start  -- start ≤ end
  pub each : (s : List ℕ) (start end i : ℕ) → start + i < end → end ≤ length s → byte (part s start end) i ≡ byte s (start + i)
  pub backwards : (s : List ℕ) (start end : ℕ) → end < start → part s start end ≡ []
  pub past : (s : List ℕ) (start end : ℕ) → length s < end → part s start end ≡ []

-- Two results that satisfy a contract are equal, for each public function; of a writer, what the buffer holds afterwards.
pub record ResultsDetermined : Type 0 where
  pub wide : (b : ℕ) → AtMostOne (Wide b)
  pub pair : (hi lo : ℕ) → AtMostOne (Pair hi lo)
  pub put : (s old : List ℕ) → AtMostOne (Put s old)
  pub put_byte : (b : ℕ) (old : List ℕ) → AtMostOne (PutByte b old)
  pub put_pair : (n : ℕ) (old : List ℕ) → AtMostOne (PutPair n old)
  pub put_word : (n : ℕ) (old : List ℕ) → AtMostOne (PutWord n old)
  pub all_zero : (s : List ℕ) → AtMostOne (AllZero s)
  pub part : (s : List ℕ) (start end : ℕ) → AtMostOne (Part s start end)
