-- One kind of fault is told of a text, and none of a text that is read.
use Rattle.std.proofs.Common.{◌≡◌, ◌∙◌, ◌<◌, ◌⊎◌, ◌==◌, inl, inr, if◌then◌else◌, ℕ, List, ap, arith, refl, subst, sym}
use Rattle.toml.specs.Data.{Members}
use Rattle.configuration.specs.declared.Config.{Config}
use Rattle.configuration.specs.declared.FaultKind.{FaultKind}
use Rattle.configuration.specs.declared.FaultKind.TheVariants.{NotToml, WrongKeys, WrongTypes, OutOfRange, Duplicate, SharedFrames, UnknownClient, UnknownPort}
use Rattle.configuration.specs.Document.{IsDocument, IsLeastDocumentFault, DocumentReadsAsValidConfig, TextReadsAsValidConfig, IsLeastTextFault, document_fault, wrong_keys, negative_number, broken_rule, wrong_types, not_a_document}
use Rattle.configuration.specs.Rules.{IsLeastFault, kind_number}
use Rattle.configuration.specs.TomlTables.{Spells}
use Rattle.configuration.proofs.Same.{meets-alike, same-values}

kind_of : ℕ → FaultKind
kind_of n =
    if n == 1 then NotToml
    else (if n == 2 then WrongKeys
    else (if n == 3 then WrongTypes
    else (if n == 4 then OutOfRange
    else (if n == 5 then Duplicate
    else (if n == 6 then SharedFrames
    else (if n == 7 then UnknownClient else UnknownPort))))))

kind_of-number : (k : FaultKind) → kind_of (kind_number k) ≡ k
unfolding kind_of
kind_of-number NotToml = refl
kind_of-number WrongKeys = refl
kind_of-number WrongTypes = refl
kind_of-number OutOfRange = refl
kind_of-number Duplicate = refl
kind_of-number SharedFrames = refl
kind_of-number UnknownClient = refl
kind_of-number UnknownPort = refl

below-or-not : (n k : ℕ) → (n < k) ⊎ ((k < n) ⊎ (n ≡ k))
below-or-not n k = grind arith

-- of one configuration one rule is broken first
first-broken : (c : Config) (k l : FaultKind) → IsLeastFault c k → IsLeastFault c l → k ≡ l
first-broken c k l a b = elim (below-or-not (kind_number k) (kind_number l)) [
  | inl less ↦ absurd (a.0 (b.1 k less))
  | inr (inl more) ↦ absurd (b.0 (a.1 l more))
  | inr (inr same) ↦ sym (kind_of-number k) ∙ ap kind_of same ∙ kind_of-number l
]

broken-alike : (m : Members) (c d : Config) (k : FaultKind) → Spells m c → Spells m d → IsLeastFault d k → IsLeastFault c k
broken-alike m c d k a b h = (
  (λ meets. h.0 (meets-alike c d k (same-values m c d a b) meets)),
  (λ l less. meets-alike d c l (same-values m d c b a) (h.1 l less)),
)

pub one-fault : (m : Members) (k l : FaultKind) → IsLeastDocumentFault m k → IsLeastDocumentFault m l → k ≡ l
one-fault m _ _ (wrong_keys wrong) (wrong_keys wrong') = refl
one-fault m _ _ (wrong_keys wrong) (wrong_types right wrong') = absurd (wrong right)
one-fault m _ _ (wrong_keys wrong) (negative_number right t none) = absurd (wrong right)
one-fault m _ _ (wrong_keys wrong) (broken_rule k c right t s b) = absurd (wrong right)
one-fault m _ _ (wrong_types right wrong) (wrong_keys wrong') = absurd (wrong' right)
one-fault m _ _ (wrong_types right wrong) (wrong_types right' wrong') = refl
one-fault m _ _ (wrong_types right wrong) (negative_number right' t none) = absurd (wrong t)
one-fault m _ _ (wrong_types right wrong) (broken_rule k c right' t s b) = absurd (wrong t)
one-fault m _ _ (negative_number right t none) (wrong_keys wrong) = absurd (wrong right)
one-fault m _ _ (negative_number right t none) (wrong_types right' wrong) = absurd (wrong t)
one-fault m _ _ (negative_number right t none) (negative_number right' t' none') = refl
one-fault m _ _ (negative_number right t none) (broken_rule k c right' t' s b) = absurd (none c s)
one-fault m _ _ (broken_rule k c right t s b) (wrong_keys wrong) = absurd (wrong right)
one-fault m _ _ (broken_rule k c right t s b) (wrong_types right' wrong) = absurd (wrong t)
one-fault m _ _ (broken_rule k c right t s b) (negative_number right' t' none) = absurd (none c s)
one-fault m _ _ (broken_rule k c right t s b) (broken_rule l d right' t' s' b') = first-broken c k l b (broken-alike m c d l s s' b')

one-document : (text : List ℕ) (m n : Members) → IsDocument text m → IsDocument text n → m ≡ n
one-document text m n a b = let both = sym a.parses_as_document ∙ b.parses_as_document in cc

pub told-kind-is-one : (text : List ℕ) (k l : FaultKind) → IsLeastTextFault text k → IsLeastTextFault text l → k ≡ l
told-kind-is-one text _ _ (not_a_document wrong) (not_a_document wrong') = refl
told-kind-is-one text _ _ (not_a_document wrong) (document_fault l m is fault) = absurd (wrong m is)
told-kind-is-one text _ _ (document_fault k m is fault) (not_a_document wrong) = absurd (wrong m is)
told-kind-is-one text _ _ (document_fault k m is fault) (document_fault l n is' fault') =
    one-fault m k l fault (subst (λ o. IsLeastDocumentFault o l) (one-document text n m is' is) fault')

read-has-no-fault : (m : Members) (c : Config) (k : FaultKind) → DocumentReadsAsValidConfig m c → IsLeastDocumentFault m k → ⊥
read-has-no-fault m c _ read (wrong_keys wrong) = wrong read.has_valid_keys
read-has-no-fault m c _ read (wrong_types right wrong) = wrong read.has_all_types
read-has-no-fault m c _ read (negative_number right t none) = none c read.spells_config
read-has-no-fault m c _ read (broken_rule k d right t s b) =
    b.0 (meets-alike c d k (same-values m c d read.spells_config s) (read.lacks_every_fault k))

pub read-text-has-no-fault : (text : List ℕ) (c : Config) (k : FaultKind) → TextReadsAsValidConfig text c → IsLeastTextFault text k → ⊥
read-text-has-no-fault text c _ read (not_a_document wrong) = wrong read.0 read.1
read-text-has-no-fault text c _ read (document_fault k m is fault) =
    read-has-no-fault m c k (subst (λ o. DocumentReadsAsValidConfig o c) (one-document text read.0 m read.1 is) read.2) fault
