-- The bytes of a text: its words, its numbers, and what it quotes.
use Prim.Native.String.{String}
use Rattle.std.specs.Prelude.{ℕ, List, codes, Bool, ◌/◌, ◌%◌, [], ◌∷◌, ◌++◌, flat_map, slice_index, nat_eq, nat_le}
use Rattle.std.specs.Prelude.{◌&&◌, not, if◌then◌else◌, take, ◌≡◌, ◌+◌, ◌-◌, ◌^◌, ◌<◌, min, true, false, length, Option}
use Rattle.std.specs.Prelude.{Result, MatchResult}
use Rattle.std.specs.Io.KnownBytes.{Appends}
use Rattle.text_writer.specs.declared.output.Out.{Out}
use Rattle.text_writer.specs.declared.output.WriteFault.{WriteFault}

-- the bytes of this word
unfoldable pub word : String → List ℕ
word s = codes s

-- ---- The text of numbers and of quoted bytes.

-- a hexadecimal digit
unfoldable pub hex_digit : ℕ → ℕ
hex_digit n = slice_index (codes "0123456789ABCDEF") n

-- a byte in two digits
unfoldable pub hex2 : ℕ → List ℕ
hex2 n = hex_digit (n / 16) ∷ hex_digit (n % 16) ∷ []

-- numbers in four, eight and sixteen digits
unfoldable pub hex4 : ℕ → List ℕ
hex4 n = hex2 (n / 256) ++ hex2 (n % 256)

unfoldable pub hex8 : ℕ → List ℕ
hex8 n = hex4 (n / 65536) ++ hex4 (n % 65536)

unfoldable pub hex16 : ℕ → List ℕ
hex16 n = hex8 (n / 4294967296) ++ hex8 (n % 4294967296)

-- printable ASCII but the quote and the backslash
unfoldable pub is_plain : ℕ → Bool
is_plain b = nat_le 32 b && nat_le b 126 && not (nat_eq b 34) && not (nat_eq b 92)

-- such a byte stands as it is, and any other is escaped
unfoldable pub quoted_byte : ℕ → List ℕ
quoted_byte b = if is_plain b then b ∷ [] else word "\\x" ++ hex2 b

-- the bytes between quotes; one that isn't printable ASCII, a quote or a backslash is `\xNN`
unfoldable pub quoted : List ℕ → List ℕ
quoted bs = word "\"" ++ flat_map quoted_byte bs ++ word "\""

-- ---- The bytes that wait to be written.

-- the bytes that wait
abbrev pub waiting : {W : Type 0} → Out W → List ℕ
waiting out = take out.len out.buffer.now

-- ---- What a writer took, and how much of it.

-- the writer grew by these bytes, and the count by their length, up to `u64::MAX`
pub record Sends {W : Type 0} (contents : W → Option (List ℕ)) (before after : Out W) (bytes : List ℕ) : Type 0 where
  pub same : after.inner.ghost_name ≡ before.inner.ghost_name
  pub grew : Appends (contents before.inner.now) (contents after.inner.now) bytes
  pub counted : min after.wrote (2 ^ 64 - 1) ≡ min (before.wrote + length bytes) (2 ^ 64 - 1)

-- what waited and the text went out, but for this rest
pub record Went {W : Type 0} (contents : W → Option (List ℕ)) (before after : Out W) (text rest : List ℕ) : Type 0 where
  pub bytes : List ℕ
  pub sent : Sends contents before after bytes
  pub whole : waiting before ++ text ≡ bytes ++ rest

-- by whether a fault came before, and has come since: all went out but for what waits now, or it was cut short
abbrev pub PrintsBy : Bool → Bool → {W : Type 0} → (W → Option (List ℕ)) → Out W → Out W → List ℕ → Type 0
PrintsBy false false contents before after text = Went contents before after text (waiting after)
PrintsBy false true contents before after text =
    (rest : List ℕ) × (0 < length rest) × Went contents before after text rest
PrintsBy true true contents before after text = Sends contents before after []
PrintsBy true false contents before after text = ⊥

-- the text was printed, as far as no fault came
unfoldable pub Prints : {W : Type 0} → (W → Option (List ℕ)) → Out W → Out W → List ℕ → Type 0
Prints contents before after text = PrintsBy before.failed after.failed contents before after text

-- at `Ok` the writer took the text, and else a part of it that is cut short, of which `wrote` is the length, up to
-- `u64::MAX`
pub record Cut (before after : Option (List ℕ)) (text : List ℕ) (wrote : ℕ) : Type 0 where
  pub bytes : List ℕ
  pub rest : List ℕ
  pub whole : text ≡ bytes ++ rest
  pub short : 0 < length rest
  pub grew : Appends before after bytes
  pub counted : min wrote (2 ^ 64 - 1) ≡ min (length bytes) (2 ^ 64 - 1)

abbrev pub Writes : Option (List ℕ) → Option (List ℕ) → List ℕ → Result (Unit {0}) WriteFault → Type 0
Writes before after text r = MatchResult r (λ _. Appends before after text) (λ e. Cut before after text e.wrote)
