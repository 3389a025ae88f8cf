-- What a followed adapter asks of its peer, and what it notes of that (this project's own).
use Rattle.std.specs.Prelude.{ℕ, ◌≡◌, ◌+◌, ◌-◌, ◌%◌, ◌^◌, ◌++◌, ◌⊎◌, List, [], Option, None, Some, bit_and, bit_or, length, slice_index, slice_set}
use Rattle.ata_types.specs.declared.Port.{Port}
use Rattle.adapter.specs.Access.{Access}
use Rattle.adapter.specs.Access.Access.{Loading, Reading}
use Rattle.hba_regs.specs.declared.reg.PortReg.TheVariants.{Ci, Cmd, Sact}
use Rattle.hba_regs.specs.declared.reg.Reg.{Reg}
use Rattle.hba_regs.specs.declared.reg.Reg.TheVariants.{Px}
use Rattle.followed.specs.ComparedBytes.{AreTakenForSame, IsFirstDifference}
use Rattle.followed.specs.declared.divergence.Divergence.{Divergence}
use Rattle.followed.specs.declared.divergence.Divergence.TheVariants.{Memory, Register, Silent}
use Rattle.followed.specs.declared.followed.Followed.{Followed}
use Rattle.followed.specs.declared.peer.PeerFault.{PeerFault}

-- ---- one after another

-- the divergence is an answer that differs from the model's, and not a missing one
abbrev pub IsDifference : Divergence → Type 0
IsDifference (Silent fault) = ⊥
IsDifference _ = Unit {0}

-- A peer and the divergence that is noted of it, as they may follow from a first peer and what was noted of that. The
-- peer is asked only while no divergence is noted. If it makes the access, none is noted still. If it fails, the fault
-- is noted at once. An answer may be found to differ, and is noted then. So the first divergence stays, and nothing is
-- asked after it.
pub data AsksUntilDivergence {P : Type 0} (makes : P → Access → P → Type 0) (fails : P → PeerFault → P → Type 0)
    (first : P) (noted : Option Divergence) : P → Option Divergence → Type 0 where
  asks_nothing : AsksUntilDivergence makes fails first noted first noted
  is_answered : {before after : P} {access : Access} → AsksUntilDivergence makes fails first noted before None
      → makes before access after
      → AsksUntilDivergence makes fails first noted after None
  is_silent : {before after : P} {fault : PeerFault} → AsksUntilDivergence makes fails first noted before None
      → fails before fault after
      → AsksUntilDivergence makes fails first noted after (Some (Silent fault))
  differs : {before : P} {found : Divergence} → AsksUntilDivergence makes fails first noted before None
      → IsDifference found
      → AsksUntilDivergence makes fails first noted before (Some found)

-- the new state follows so from each state that the old one follows from
abbrev pub GoesOnAsking : {A P : Type 0} → (P → Access → P → Type 0) → (P → PeerFault → P → Type 0) → Followed A P
    → Followed A P → Type 0
GoesOnAsking {A} {P} makes fails old new = (first : P) (noted : Option Divergence)
    → AsksUntilDivergence makes fails first noted old.peer old.divergence
    → AsksUntilDivergence makes fails first noted new.peer new.divergence

-- a divergence that is noted stays, and nothing is asked
abbrev pub StaysStrayed : {A P : Type 0} → Followed A P → Followed A P → Type 0
StaysStrayed old new = (found : Divergence) → old.divergence ≡ Some found
    → (new.divergence ≡ Some found) × (new.peer ≡ old.peer)

-- ---- single accesses

-- The peer is asked for a register, while no divergence is noted. If it shows a value, none is noted. If it fails, its
-- fault is noted.
abbrev pub ReadsOrNotesFault : {P : Type 0} → (P → Access → P → Type 0) → (P → PeerFault → P → Type 0) → Reg → Option ℕ
    → (old new : P) → Option Divergence → Type 0
ReadsOrNotesFault makes fails r (Some value) old new noted = makes old (Reading r value) new × (noted ≡ None)
ReadsOrNotesFault makes fails r None old new noted = (fault : PeerFault) × fails old fault new
    × (noted ≡ Some (Silent fault))

-- The peer is asked for a write or a store. It makes it, and no divergence is noted; or it fails, and its fault is
-- noted.
abbrev pub MakesOrNotesFault : {P : Type 0} → (P → Access → P → Type 0) → (P → PeerFault → P → Type 0) → Access
    → (old new : P) → Option Divergence → Type 0
MakesOrNotesFault makes fails access old new None = makes old access new
MakesOrNotesFault makes fails access old new (Some (Silent fault)) = fails old fault new
MakesOrNotesFault makes fails access old new (Some _) = ⊥

-- The peer is asked for bytes from an address on. If they are taken for the same as these, no divergence is noted. If
-- they aren't, the first byte that differs is noted. If the peer fails, its fault is noted.
abbrev pub LoadsAndCompares : {P : Type 0} → (P → Access → P → Type 0) → (P → PeerFault → P → Type 0) → (address : ℕ)
    → (shown : List ℕ) → (old new : P) → Option Divergence → Type 0
LoadsAndCompares makes fails address shown old new None = (said : List ℕ) × makes old (Loading address said) new
    × AreTakenForSame address shown said
LoadsAndCompares makes fails address shown old new (Some (Memory at of_model of_peer)) = (said : List ℕ) × (place : ℕ)
    × makes old (Loading address said) new
    × IsFirstDifference shown said place
    × (at ≡ (address + place) % 2 ^ 32)
    × (of_model ≡ slice_index shown place)
    × (of_peer ≡ slice_index said place)
LoadsAndCompares makes fails address shown old new (Some (Silent fault)) = fails old fault new
LoadsAndCompares makes fails address shown old new (Some (Register r of_model of_peer)) = ⊥

-- ---- accesses among others

-- the peer makes this access first, and others may follow
pub record MakesFirst {P : Type 0} (makes : P → Access → P → Type 0) (fails : P → PeerFault → P → Type 0)
    (access : Access) (old new : P) (noted : Option Divergence) : Type 0 where
  pub answering : P
  pub makes_it : makes old access answering
  pub goes_on : AsksUntilDivergence makes fails answering None new noted

-- the peer makes this access last, and others may come before it
pub record MakesLast {P : Type 0} (makes : P → Access → P → Type 0) (fails : P → PeerFault → P → Type 0)
    (access : Access) (old new : P) : Type 0 where
  pub asked : P
  pub comes_to_it : AsksUntilDivergence makes fails old None asked None
  pub makes_it : makes asked access new

-- the peer shows PxCI and then PxSACT, and these are the slots whose bits are set in either
pub record ReadsInFlight {P : Type 0} (makes : P → Access → P → Type 0) (port : Port) (slots : ℕ) (old new : P) : Type 0
  where
    pub issued : ℕ
    pub active : ℕ
    pub between : P
    pub reads_ci : makes old (Reading (Px port Ci) issued) between
    pub reads_sact : makes between (Reading (Px port Sact) active) new
    pub slots_are : slots ≡ bit_or issued active

-- the peer shows both registers first, and others may follow, while no divergence is noted
pub record LooksFirst {P : Type 0} (makes : P → Access → P → Type 0) (fails : P → PeerFault → P → Type 0) (port : Port)
    (old new : P) : Type 0 where
  pub slots : ℕ
  pub looked_at : P
  pub looks : ReadsInFlight makes port slots old looked_at
  pub goes_on : AsksUntilDivergence makes fails looked_at None new None

-- The peer loads its memory piece by piece, from an address on and without a gap. The pieces that it loads are taken
-- for the same as the pieces of these bytes.
pub data ComparesPieces {P : Type 0} (makes : P → Access → P → Type 0) (address : ℕ) (first : P) : List ℕ → P → Type 0
  where
    no_piece : ComparesPieces makes address first [] first
    next_piece : {before after : P} {seen piece said : List ℕ} → ComparesPieces makes address first seen before
        → makes before (Loading ((address + length seen) % 2 ^ 32) said) after
        → AreTakenForSame ((address + length seen) % 2 ^ 32) piece said
        → ComparesPieces makes address first (seen ++ piece) after

-- the slots of each port are as they were, or those of this port are what the peer showed as PxCI
abbrev pub ReplacesByReading : {P : Type 0} → (P → Access → P → Type 0) → (port : Port) → (old new : List ℕ) → Type 0
ReplacesByReading {P} makes port old new = (new ≡ old) ⊎ ((issued : ℕ) × (asked answering : P)
    × makes asked (Reading (Px port Ci) issued) answering
    × (new ≡ slice_set old port.0 issued))

-- ---- values

-- What is written to a peer's register: of PxCMD the bits ST and FRE as they are written, and its other bits as the
-- peer showed them last.
abbrev pub value_for_peer : (last_cmd : List ℕ) → Reg → ℕ → ℕ
value_for_peer last_cmd (Px port Cmd) v =
    bit_or (bit_and (slice_index last_cmd port.0) (2 ^ 32 - 1 - 0x11)) (bit_and v 0x11)
value_for_peer last_cmd r v = v

-- what is noted of slots, of differences that were met, and of PxCMD stays
pub record KeepsNotes {A P : Type 0} (old new : Followed A P) : Type 0 where
  pub slots_stay : new.differing ≡ old.differing
  pub met_differences_stay : new.met_differences ≡ old.met_differences
  pub last_peer_cmd_stays : new.last_peer_cmd ≡ old.last_peer_cmd

-- the same, but slots may be noted as failed
pub record NotesFailuresOnly {A P : Type 0} (old new : Followed A P) : Type 0 where
  pub untaken_slots_stay : new.differing.untaken ≡ old.differing.untaken
  pub met_differences_stay : new.met_differences ≡ old.met_differences
  pub last_peer_cmd_stays : new.last_peer_cmd ≡ old.last_peer_cmd

-- the same, but slots may be noted, and forgotten
pub record NotesSlotsOnly {A P : Type 0} (old new : Followed A P) : Type 0 where
  pub met_differences_stay : new.met_differences ≡ old.met_differences
  pub last_peer_cmd_stays : new.last_peer_cmd ≡ old.last_peer_cmd
