-- A list that is copied in parts.
use Rattle.std.proofs.Common.{ℕ, ◌≡◌, ◌≤◌, ◌+◌, ◌++◌, ◌∙◌, List, length, take, drop, length-take, length-drop, sym, ap, arith}
use Rattle.std.proofs.Math.Seq.{take-add, take-append-add}
use Rattle.std.proofs.lemmas.List.{take_at}

-- where so many bytes were copied, and so many behind them are put there, all these are
pub take_copied : (at n : ℕ) (m o g rest : List ℕ) → at + n ≤ length m → at ≤ length o → take at o ≡ take at m →
    g ≡ take n (drop at m) → take (at + n) (take at o ++ (g ++ rest)) ≡ take (at + n) m
take_copied at n m o g rest long fits before is =
    let front : length (take at o) ≡ at = simp length-take (omega (arith, fits)) in
    let size : length (take n (drop at m)) ≡ n = simp (length-take, length-drop) (omega (arith, long)) in
    let part : length g ≡ n = ap length is ∙ size in
    ap (λ (k : ℕ). take (k + n) (take at o ++ (g ++ rest))) (sym front)
    ∙ (take-append-add (take at o) (g ++ rest) n
    ∙ ((λ i. before i ++ take_at g rest n part i)
    ∙ (ap (λ (l : List ℕ). take at m ++ l) is ∙ sym (take-add at n m))))
