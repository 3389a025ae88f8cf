-- Bytes as hexadecimal pairs, and read back.
use Rattle.std.proofs.Common.{◌≡◌, ◌<◌, ◌*◌, ◌∙◌, ℕ, zero, suc, List, [], ◌∷◌, length, get_or, arith, ap, sym, subst, Result, Ok, Err}
use Rattle.std.proofs.lemmas.List.Elements.{All-head, All-tail}
use Rattle.std.specs.List.{All}
use Rattle.std.specs.Result.{MatchResult}
use Rattle.hex.specs.declared.error.FromHexError.{FromHexError}
use Rattle.hex.specs.Hex.{encode_lower, decode_sized, lower_digits}
use Rattle.hex.proofs.HexLemmas.{decode_sized-encode_lower, length-encode_with}

pub sized_as : (bytes word : List ℕ) → encode_lower bytes ≡ word → length word ≡ 2 * length bytes
sized_as bytes word e = ap length (sym e) ∙ length-encode_with lower_digits bytes

small : (bytes : List ℕ) → All (λ b. b < 256) bytes → (i : ℕ) → get_or bytes i 0 < 256
small [] h i = omega arith
small (b ∷ bytes) h zero = All-head (λ b. b < 256) b bytes h
small (b ∷ bytes) h (suc i) = small bytes (All-tail (λ b. b < 256) b bytes h) i

-- what a word that spells some bytes is read as
pub decoded : (bytes word : List ℕ) (room : ℕ) → length bytes ≡ room → All (λ b. b < 256) bytes → encode_lower bytes ≡ word
    → (r : Result (Unit {0}) FromHexError) (out : List ℕ)
    → MatchResult (decode_sized word room) (λ xs. (r ≡ Ok tt) × (out ≡ xs)) (λ e. r ≡ Err e) → (r ≡ Ok tt) × (out ≡ bytes)
decoded bytes word room sized all e r out told =
    let read : decode_sized word room ≡ Ok bytes =
    ap (λ text. decode_sized text room) (sym e) ∙ decode_sized-encode_lower bytes room sized (small bytes all) in
    subst (λ d. MatchResult d (λ xs. (r ≡ Ok tt) × (out ≡ xs)) (λ e. r ≡ Err e)) read told
