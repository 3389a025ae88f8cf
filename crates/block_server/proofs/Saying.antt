-- What is said can be read in one way only.
use Rattle.std.proofs.Common.{ℕ, suc, zero, ◌≡◌, ◌++◌, ◌∷◌, ◌∙◌, [], List, length, map, ap, sym, refl, append_assoc, append-nil}
use Rattle.std.specs.Prelude.{false, Some, None, Ok, Err}
use Rattle.std.specs.List.{flat_map}
use Rattle.ata_types.specs.declared.request.Reply.{Reply}
use Rattle.block_machine.specs.Events.{AbstractCallResult, Submitted, Stored, Loaded, Replied, WasReset, WasRevoked, PortStateShown, Stepped}
use Rattle.block_server.specs.Said.{said_of}
use Rattle.block_server.specs.declared.said.Said.{Said}
use Rattle.block_server.specs.declared.said.Said.TheVariants as said

-- so many replies are read off the front, as far as there are replies
abbrev replies_read : ℕ → List Said → List Reply × List Said
replies_read zero rest = ([], rest)
replies_read (suc n) (said.Reply reply ∷ rest) = let more = replies_read n rest in (reply ∷ more.0, more.1)
replies_read (suc n) rest = ([], rest)

replies_are_read : (replies : List Reply) (rest : List Said) → replies_read (length replies) (map said.Reply replies ++ rest) ≡ (replies, rest)
replies_are_read [] rest = refl
replies_are_read (reply ∷ replies) rest = ap (λ (more : List Reply × List Said). (reply ∷ more.0, more.1)) (replies_are_read replies rest)

-- one result is read off the front, and the rest is left; of no result it is read that a step wasn't done
abbrev result_read : List Said → AbstractCallResult × List Said
result_read (said.Submitted result ∷ rest) = (Submitted result, rest)
result_read (said.Stored (Ok done) ∷ rest) = (Stored None, rest)
result_read (said.Stored (Err fault) ∷ rest) = (Stored (Some fault), rest)
result_read (said.Loaded (Ok bytes) ∷ rest) = (Loaded (Ok bytes.items), rest)
result_read (said.Loaded (Err fault) ∷ rest) = (Loaded (Err fault), rest)
result_read (said.Replied count ∷ rest) = let read = replies_read count rest in (Replied read.0, read.1)
result_read (said.WasReset (Ok count) ∷ rest) = let read = replies_read count rest in (WasReset (Some read.0), read.1)
result_read (said.WasReset (Err why) ∷ rest) = (WasReset None, rest)
result_read (said.WasRevoked (Ok count) ∷ rest) = let read = replies_read count rest in (WasRevoked (Some read.0), read.1)
result_read (said.WasRevoked (Err none) ∷ rest) = (WasRevoked None, rest)
result_read (said.State state ∷ rest) = (PortStateShown state, rest)
result_read (said.Stepped done ∷ rest) = (Stepped done, rest)
result_read rest = (Stepped false, rest)

result_is_read : (result : AbstractCallResult) (rest : List Said) → result_read (said_of result ++ rest) ≡ (result, rest)
result_is_read (Submitted result) rest = refl
result_is_read (Stored None) rest = refl
result_is_read (Stored (Some fault)) rest = refl
result_is_read (Loaded (Ok bytes)) rest = refl
result_is_read (Loaded (Err fault)) rest = refl
result_is_read (Replied replies) rest = ap (λ (read : List Reply × List Said). (Replied read.0, read.1)) (replies_are_read replies rest)
result_is_read (WasReset (Some replies)) rest = ap (λ (read : List Reply × List Said). (WasReset (Some read.0), read.1)) (replies_are_read replies rest)
result_is_read (WasReset None) rest = refl
result_is_read (WasRevoked (Some replies)) rest = ap (λ (read : List Reply × List Said). (WasRevoked (Some read.0), read.1)) (replies_are_read replies rest)
result_is_read (WasRevoked None) rest = refl
result_is_read (PortStateShown state) rest = refl
result_is_read (Stepped done) rest = refl

-- something is said of each result
something_is_said : (result : AbstractCallResult) (rest : List Said) → (said_of result ++ rest ≡ []) → ⊥
something_is_said (Submitted result) rest none = cc
something_is_said (Stored None) rest none = cc
something_is_said (Stored (Some fault)) rest none = cc
something_is_said (Loaded (Ok bytes)) rest none = cc
something_is_said (Loaded (Err fault)) rest none = cc
something_is_said (Replied replies) rest none = cc
something_is_said (WasReset (Some replies)) rest none = cc
something_is_said (WasReset None) rest none = cc
something_is_said (WasRevoked (Some replies)) rest none = cc
something_is_said (WasRevoked None) rest none = cc
something_is_said (PortStateShown state) rest none = cc
something_is_said (Stepped done) rest none = cc

pub unambiguous : (one other : List AbstractCallResult) → flat_map said_of one ≡ flat_map said_of other → one ≡ other
unambiguous [] [] same = refl
unambiguous [] (b ∷ other) same = absurd (something_is_said b (flat_map said_of other) (sym same))
unambiguous (a ∷ one) [] same = absurd (something_is_said a (flat_map said_of one) same)
unambiguous (a ∷ one) (b ∷ other) same =
    let reads = sym (result_is_read a (flat_map said_of one)) ∙ ap result_read same ∙ result_is_read b (flat_map said_of other) in
    ap (λ (first : AbstractCallResult). first ∷ one) (ap (λ (read : AbstractCallResult × List Said). read.0) reads)
    ∙ ap (λ (rest : List AbstractCallResult). b ∷ rest) (unambiguous one other (ap (λ (read : AbstractCallResult × List Said). read.1) reads))

-- what one more result is said as stands at the end
pub said_once_more : (results : List AbstractCallResult) (one : AbstractCallResult) → flat_map said_of (results ++ one ∷ []) ≡ flat_map said_of results ++ said_of one
said_once_more [] one = append-nil (said_of one)
said_once_more (result ∷ results) one = ap (λ (rest : List Said). said_of result ++ rest) (said_once_more results one) ∙ sym (append_assoc (said_of result) (flat_map said_of results) (said_of one))
