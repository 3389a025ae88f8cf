-- What a disk may come back with, after each step: the machine's disk holds it, or has held it.
use Rattle.std.proofs.Common.{ℕ, zero, suc, ◌≡◌, ◌≢◌, ◌⊎◌, ◌<◌, ◌≤◌, ◌+◌, ◌==◌, ◌&&◌, Bool, true, false, cond, List, [], ◌∷◌, ◌++◌, length, get_or, drop, replicate, slice_index, Option, Some, None, nat_eq, nat_le, nat_lt, inl, inr, ⊎_elim, refl, sym, ◌∙◌, ap, subst, arith, eqb-true, ne_eqb, leb-true, ltb-true}
use Rattle.std.specs.Prelude.{option_map}
use Rattle.std.specs.List.{Contains}
use Rattle.std.proofs.lemmas.Bool.{cond-true, cond-false, and_parts, false≢true}
use Rattle.std.proofs.lemmas.List.Elements.{Contains-append_cases}
use Rattle.std.proofs.lemmas.Option.{same_Some}
use Rattle.ata_types.specs.declared.Port.{Port}
use Rattle.ata_types.specs.declared.request.Op.{Op}
use Rattle.ata_types.specs.declared.request.Op.TheVariants.{Read, Write, Trim, Flush}
use Rattle.adapter.specs.Commands.{moves_disk_sectors, reads_memory}
use Rattle.adapter.specs.Device.{Disk, DurableState, DevicePort, FetchedCommand}
use Rattle.adapter.specs.Steps.{WereHeldSinceFlush, bytes_put_into, lasting_after, lasting_after_plug_or_replug, port_with_lasting_after_operation, next_sector, move_of, clear_entry}
use Rattle.adapter.specs.declared.command.Operation.{Operation}
use Rattle.adapter.specs.declared.command.Operation.TheVariants as operation
use Rattle.adapter.specs.declared.tape.Entry.{Entry}
use Rattle.adapter.specs.declared.tape.Entry.TheVariants as entry
use Rattle.block_machine.specs.State as state
use Rattle.block_machine.specs.State.{Block, Pending, Machine, sector_of, block_written}
use Rattle.block_machine.specs.DueRequests.{is_flush, changes_sectors}
use Rattle.block_machine.specs.Expected as left
use Rattle.block_machine.specs.Steps.{Touch, End, PlugDisk, SameBytes, HoldsOrHeldSinceFlush, after_step, put_sector}
use Rattle.refinement.specs.Slots.{client_operation_of}
use Rattle.refinement.specs.Relation.{port_at, SameSectors, KnowsAllReplugCandidates}
use Rattle.refinement.specs.Tape.{with_sectors_touched, touch_steps}

-- ---- the machine: what a sector holds, or has held, so it has after a step, until a flush is ended

-- what a sector holds, and what was put aside of it
abbrev Holds : Block → List Block → Block → Type 0
Holds now aside b = SameBytes b now ⊎ ((old : Block) × Contains aside old × SameBytes b old)

put_aside : (was now b : Block) (aside : List Block) → Holds was aside b → Holds now (was ∷ aside) b
put_aside was now b aside h = ⊎_elim
    (λ same. inr (was, (0, omega arith, refl), same))
    (λ o. inr (o.0, (let c = o.1 in let lt = c.1 in (suc c.0, omega (arith, lt), c.2)), o.2))
    h

held_touched : (m : Machine) (e : Pending) (i : ℕ) (block : Block) (port : Port) (k : ℕ) (b : Block) → HoldsOrHeldSinceFlush m port k b → HoldsOrHeldSinceFlush (after_step m (Touch e i block)) port k b
held_touched m e i block port k b h = by_op (changes_sectors e.request.asked.op)
  where
    written : Block
    written = block_written e.request.asked.op e.request.blocks_at_acceptance i

    by_place : (here : Bool) → Holds (cond here written (m.disk_bytes port k)) (cond here (m.disk_bytes port k ∷ m.overwritten_since_flush port k) (m.overwritten_since_flush port k)) b
    by_place true = put_aside (m.disk_bytes port k) written b (m.overwritten_since_flush port k) h
    by_place false = h

    by_op : (w : Bool) → Holds ((cond w (put_sector e.request.port (sector_of e.request i) written m.disk_bytes) m.disk_bytes) port k)
        (cond (w && ((port.0 == e.request.port.0) && (k == sector_of e.request i))) (m.disk_bytes port k ∷ m.overwritten_since_flush port k) (m.overwritten_since_flush port k)) b
    by_op true = by_place ((port.0 == e.request.port.0) && (k == sector_of e.request i))
    by_op false = h

held_swept : (m : Machine) (e : Pending) (from n : ℕ) (port : Port) (k : ℕ) (b : Block) → HoldsOrHeldSinceFlush m port k b → HoldsOrHeldSinceFlush (left.after m (touch_steps e from n)) port k b
held_swept m e from zero port k b h = h
held_swept m e from (suc n) port k b h =
    held_touched (left.after m (touch_steps e from n)) (with_sectors_touched e from n) (from + n) (λ b. 0) port k b (held_swept m e from n port k b h)

-- another command than a flush is ended, or one of another port
held_ended : (m : Machine) (e : Pending) (port : Port) (k : ℕ) (b : Block) → ((e.request.port.0 == port.0) && is_flush e.request.asked.op) ≡ false
    → HoldsOrHeldSinceFlush m port k b → HoldsOrHeldSinceFlush (after_step m (End e)) port k b
held_ended m e port k b other h =
    subst (λ (aside : List Block). Holds (m.disk_bytes port k) aside b) (sym (cond-false ((e.request.port.0 == port.0) && is_flush e.request.asked.op) [] (m.overwritten_since_flush port k) other)) h

-- the disk that comes in at a port is the same, or the port is another
held_replaced : (m : Machine) (p : Port) (id size : ℕ) (disk : state.DiskBytes) (port : Port) (k : ℕ) (b : Block) → ((port.0 == p.0) ≡ true → (id == m.disk_ids port) ≡ true)
    → HoldsOrHeldSinceFlush m port k b → HoldsOrHeldSinceFlush (after_step m (PlugDisk p id size disk)) port k b
held_replaced m p id size disk port k b same h = go (port.0 == p.0) (id == m.disk_ids port) same
  where
    go : (here known : Bool) → (here ≡ true → known ≡ true)
        → Holds ((cond here disk (m.disk_bytes port)) k) (cond here (cond known (m.disk_bytes port k ∷ m.overwritten_since_flush port k) []) (m.overwritten_since_flush port k)) b
    go true true is = put_aside (m.disk_bytes port k) (disk k) b (m.overwritten_since_flush port k) h
    go true false is = absurd (false≢true (is refl))
    go false known is = h

-- ---- the tape

-- what was there of the longer tape is the entry, or was there of the shorter one
last_or : (xs : List Entry) (e x : Entry) → Contains (xs ++ e ∷ []) x → (x ≡ e) ⊎ Contains xs x
last_or xs e x c = ⊎_elim
    (λ before. inr before)
    (λ (last : Contains (e ∷ []) x). inl (one last.0 last.1 last.2))
    (Contains-append_cases xs (e ∷ []) x c)
  where
    one : (i : ℕ) → i < 1 → get_or (e ∷ []) i x ≡ x → x ≡ e
    one zero lt is = sym is
    one (suc i) lt is = absurd (omega (arith, lt))

drop_none : (n : ℕ) → drop {A = Entry} n [] ≡ []
drop_none zero = refl
drop_none (suc n) = refl

drop_more : (n : ℕ) (xs : List Entry) (e x : Entry) → Contains (drop n (xs ++ e ∷ [])) x → (x ≡ e) ⊎ Contains (drop n xs) x
drop_more zero xs e x c = last_or xs e x c
drop_more (suc n) [] e x c = inr (subst (λ (l : List Entry). Contains l x) (drop_none n) c)
drop_more (suc n) (y ∷ ys) e x c = drop_more n ys e x c

drop_all : (xs : List Entry) (x : Entry) → Contains (drop (length xs) xs) x → ⊥
drop_all [] x c = let lt = c.1 in omega (arith, lt)
drop_all (y ∷ ys) x c = drop_all ys x c

puts_none : (o : Option (List ℕ)) (bytes : List ℕ) → o ≡ None → o ≡ Some bytes → ⊥
puts_none o bytes none some = let z : None ≡ Some bytes = sym none ∙ some in cc

-- the entry puts nothing anywhere
abbrev pub IsQuiet : Entry → Type 0
IsQuiet e = (q k : ℕ) → bytes_put_into q k e ≡ None

and_false : (a : Bool) → a && false ≡ false
and_false true = refl
and_false false = refl

-- a move for another command than a write puts nothing
pub quiet_move : (port slot : ℕ) (t : FetchedCommand) (bytes : List ℕ) → (client_operation_of t.meaning.operation ≡ Some Write → ⊥) → IsQuiet (entry.Move (move_of port slot t bytes))
quiet_move port slot t bytes none q k =
    cond-false (((port == q) && (next_sector t == k)) && (moves_disk_sectors t.meaning.operation && reads_memory t.meaning.operation)) (Some bytes) None
    (ap (λ (b : Bool). ((port == q) && (next_sector t == k)) && b) (quiet t.meaning.operation none) ∙ and_false ((port == q) && (next_sector t == k)))
  where
    quiet : (o : Operation) → (client_operation_of o ≡ Some Write → ⊥) → moves_disk_sectors o && reads_memory o ≡ false
    quiet operation.Write n = absurd (n refl)
    quiet operation.WriteQueued n = absurd (n refl)
    quiet operation.Read n = refl
    quiet operation.ReadQueued n = refl
    quiet operation.Trim n = refl
    quiet operation.Flush n = refl
    quiet operation.Identify n = refl
    quiet operation.ReadLog n = refl

-- ---- what may come back

-- what a sector of the port may come back with by the longer tape, it might by the shorter one; or the machine's disk holds it now, or has held it
abbrev pub Gains : List Entry → List Entry → Machine → ℕ → Type 0
Gains earlier later m port = (l : DurableState) (k : ℕ) (bytes : List ℕ) → WereHeldSinceFlush later l port k bytes
    → WereHeldSinceFlush earlier l port k bytes ⊎ HoldsOrHeldSinceFlush m (port_at port) k (slice_index bytes)

pub gains_none : (tape : List Entry) (m : Machine) (port : ℕ) → Gains tape tape m port
gains_none tape m port l k bytes w = inl w

pub gains_put : (tape : List Entry) (e : Entry) (m : Machine) (port : ℕ) → ((k : ℕ) (bytes : List ℕ) → bytes_put_into port k e ≡ Some bytes → HoldsOrHeldSinceFlush m (port_at port) k (slice_index bytes))
    → Gains tape (tape ++ e ∷ []) m port
gains_put tape e m port put l k bytes (inl was) = inl (inl was)
gains_put tape e m port put l k bytes (inr (x, here, is)) = ⊎_elim
    (λ (last : x ≡ e). inr (put k bytes (ap (bytes_put_into port k) (sym last) ∙ is)))
    (λ before. inl (inr (x, before, is)))
    (drop_more l.tape_length tape e x here)

pub gains_quiet : (tape : List Entry) (e : Entry) (m : Machine) (port : ℕ) → IsQuiet e → Gains tape (tape ++ e ∷ []) m port
gains_quiet tape e m port quiet = gains_put tape e m port (λ k bytes is. absurd (puts_none (bytes_put_into port k e) bytes (quiet port k) is))

-- what the port's sectors hold, or have held, they have afterwards
abbrev pub Keeps : Machine → Machine → ℕ → Type 0
Keeps m m' port = (k : ℕ) (b : Block) → HoldsOrHeldSinceFlush m (port_at port) k b → HoldsOrHeldSinceFlush m' (port_at port) k b

pub keeps_same : (m m' : Machine) (port : ℕ) → m'.disk_bytes ≡ m.disk_bytes → m'.overwritten_since_flush ≡ m.overwritten_since_flush → Keeps m m' port
keeps_same m m' port disks aside k b h =
    subst (λ (now : Block). Holds now (m'.overwritten_since_flush (port_at port) k) b) (ap (λ (f : Port → state.DiskBytes). f (port_at port) k) (sym disks))
    (subst (λ (old : List Block). Holds (m.disk_bytes (port_at port) k) old b) (ap (λ (f : Port → ℕ → List Block). f (port_at port) k) (sym aside)) h)

pub lasting_on : (m m' : Machine) (earlier later : List Entry) (p new : DevicePort) (port : ℕ) → new.lasting ≡ p.lasting → new.disk.sector_count ≡ p.disk.sector_count
    → Keeps m m' port → Gains earlier later m' port → KnowsAllReplugCandidates m earlier p port → KnowsAllReplugCandidates m' later new port
lasting_on m m' earlier later p new port same size keeps gains h k inside bytes w = ⊎_elim
    (λ before. keeps k (slice_index bytes) (h k (subst (λ (n : ℕ). k < n) size inside) bytes before))
    (λ now. now)
    (gains p.lasting k bytes (subst (λ (l : DurableState). WereHeldSinceFlush later l port k bytes) same w))

-- what is lasting is what the disk holds now, and nothing was put since
lasting_now : (m : Machine) (tape : List Entry) (e : Entry) (disk : Disk) (new : DevicePort) (port : ℕ) → IsQuiet e → new.lasting ≡ record { sectors = disk.sectors; tape_length = length tape }
    → new.disk.sector_count ≡ disk.sector_count → SameSectors m disk port → KnowsAllReplugCandidates m (tape ++ e ∷ []) new port
lasting_now m tape e disk new port quiet is size s k inside bytes w = by (subst (λ (l : DurableState). WereHeldSinceFlush (tape ++ e ∷ []) l port k bytes) is w)
  where
    by : WereHeldSinceFlush (tape ++ e ∷ []) (record { sectors = disk.sectors; tape_length = length tape }) port k bytes → HoldsOrHeldSinceFlush m (port_at port) k (slice_index bytes)
    by (inl now) =
        let tells : Some (s.told_sectors k) ≡ Some bytes = ap (option_map (λ (sectors : ℕ → List ℕ). sectors k)) (sym s.disk_tells) ∙ now in
        inl (λ b lb. ap (λ (l : List ℕ). slice_index l b) (sym (same_Some (s.told_sectors k) bytes tells)) ∙ s.bytes_are_same k b (subst (λ (n : ℕ). k < n) size inside) lb)
    by (inr (x, here, put)) = ⊎_elim
        (λ (last : x ≡ e). absurd (puts_none (bytes_put_into port k e) bytes (quiet port k) (ap (bytes_put_into port k) (sym last) ∙ put)))
        (λ before. absurd (drop_all tape x before))
        (drop_more (length tape) tape e x here)

-- what a port's disk is, and what of it is lasting
abbrev pub disk_of : DevicePort → Disk × DurableState
disk_of p = (p.disk, p.lasting)

-- where nothing is put, the port's disk is the same, and its machine's too
pub lasting_same : (m : Machine) (tape : List Entry) (p new : DevicePort) (port : ℕ) → disk_of new ≡ disk_of p → KnowsAllReplugCandidates m tape p port → KnowsAllReplugCandidates m tape new port
lasting_same m tape p new port same h =
    lasting_on m m tape tape p new port (ap (λ (x : Disk × DurableState). x.1) same) (ap (λ (x : Disk × DurableState). x.0.sector_count) same) (λ k b held. held) (gains_none tape m port) h

-- ---- the steps of the machine

pub lasting_touched : (m : Machine) (e : Pending) (i : ℕ) (block : Block) (port : ℕ) → Keeps m (after_step m (Touch e i block)) port
lasting_touched m e i block port k b h = held_touched m e i block (port_at port) k b h

pub lasting_swept : (m : Machine) (e : Pending) (from n : ℕ) (port : ℕ) → Keeps m (left.after m (touch_steps e from n)) port
lasting_swept m e from n port k b h = held_swept m e from n (port_at port) k b h

-- a write's move puts what the machine's disk then holds
pub gains_write : (tape : List Entry) (m : Machine) (port slot : ℕ) (t : FetchedCommand) (bytes : List ℕ) (q : ℕ)
    → ((b : ℕ) → b < 512 → slice_index bytes b ≡ m.disk_bytes (port_at port) (next_sector t) b) → Gains tape (tape ++ entry.Move (move_of port slot t bytes) ∷ []) m q
gains_write tape m port slot t bytes q now = gains_put tape (entry.Move (move_of port slot t bytes)) m q put
  where
    by : (k : ℕ) (other : List ℕ) (here writes : Bool) → ((port == q) && (next_sector t == k)) ≡ here → cond (here && writes) (Some bytes) None ≡ Some other → HoldsOrHeldSinceFlush m (port_at q) k (slice_index other)
    by k other true true at is =
        let p = and_parts (port == q) (next_sector t == k) at in
        subst (λ (n : ℕ). HoldsOrHeldSinceFlush m (port_at n) k (slice_index other)) (eqb-true port q p.0)
        (subst (λ (n : ℕ). HoldsOrHeldSinceFlush m (port_at port) n (slice_index other)) (eqb-true (next_sector t) k p.1)
        (subst (λ (l : List ℕ). HoldsOrHeldSinceFlush m (port_at port) (next_sector t) (slice_index l)) (same_Some bytes other is) (inl now)))
    by k other true false at is = absurd (puts_none None other refl is)
    by k other false writes at is = absurd (puts_none None other refl is)

    put : (k : ℕ) (other : List ℕ) → bytes_put_into q k (entry.Move (move_of port slot t bytes)) ≡ Some other → HoldsOrHeldSinceFlush m (port_at q) k (slice_index other)
    put k other is = by k other ((port == q) && (next_sector t == k)) (moves_disk_sectors t.meaning.operation && reads_memory t.meaning.operation) refl is

-- and a clear puts zeros
pub gains_clear : (tape : List Entry) (m : Machine) (port slot first count q : ℕ)
    → ((k b : ℕ) → first ≤ k → k < first + count → b < 512 → slice_index (replicate 512 0) b ≡ m.disk_bytes (port_at port) k b) → Gains tape (tape ++ clear_entry port slot first count ∷ []) m q
gains_clear tape m port slot first count q now = gains_put tape (clear_entry port slot first count) m q put
  where
    by : (k : ℕ) (other : List ℕ) (here : Bool) → ((port == q) && (nat_le first k && nat_lt k (first + count))) ≡ here → cond here (Some (replicate 512 0)) None ≡ Some other → HoldsOrHeldSinceFlush m (port_at q) k (slice_index other)
    by k other true at is =
        let p = and_parts (port == q) (nat_le first k && nat_lt k (first + count)) at in
        let r = and_parts (nat_le first k) (nat_lt k (first + count)) p.1 in
        subst (λ (n : ℕ). HoldsOrHeldSinceFlush m (port_at n) k (slice_index other)) (eqb-true port q p.0)
        (subst (λ (l : List ℕ). HoldsOrHeldSinceFlush m (port_at port) k (slice_index l)) (same_Some (replicate 512 0) other is)
        (inl (λ b lb. now k b (leb-true first k r.0) (ltb-true k (first + count) r.1) lb)))
    by k other false at is = absurd (puts_none None other refl is)

    put : (k : ℕ) (other : List ℕ) → bytes_put_into q k (clear_entry port slot first count) ≡ Some other → HoldsOrHeldSinceFlush m (port_at q) k (slice_index other)
    put k other is = by k other ((port == q) && (nat_le first k && nat_lt k (first + count))) refl is

-- A command is ended: what the disk holds is lasting if it is a flush, and else what was so before.
module _ (m : Machine) (e : Pending) (tape : List Entry) (last : Entry) (quiet : IsQuiet last) where
  pub lasting_ended : (p : DevicePort) (port : ℕ) (o : Operation) → client_operation_of o ≡ Some e.request.asked.op → SameSectors m p.disk port → KnowsAllReplugCandidates m tape p port
      → KnowsAllReplugCandidates (after_step m (End e)) (tape ++ last ∷ []) (port_with_lasting_after_operation p o (length tape)) port
  lasting_ended p port o is s h = by o is
    where
      other : (o : Operation) (op : Op) → is_flush op ≡ false → Some op ≡ Some e.request.asked.op → lasting_after o p.lasting p.disk (length tape) ≡ p.lasting
          → KnowsAllReplugCandidates (after_step m (End e)) (tape ++ last ∷ []) (port_with_lasting_after_operation p o (length tape)) port
      other o op plain is same =
          lasting_on m (after_step m (End e)) tape (tape ++ last ∷ []) p (port_with_lasting_after_operation p o (length tape)) port same refl
          (λ k b held. held_ended m e (port_at port) k b (ap (λ (b : Bool). (e.request.port.0 == port) && b) (ap is_flush (sym (same_Some op e.request.asked.op is)) ∙ plain) ∙ and_false (e.request.port.0 == port)) held)
          (gains_quiet tape last (after_step m (End e)) port quiet) h

      no_op : {A : Type 0} → None ≡ Some e.request.asked.op → A
      no_op z = absurd cc

      by : (o : Operation) → client_operation_of o ≡ Some e.request.asked.op → KnowsAllReplugCandidates (after_step m (End e)) (tape ++ last ∷ []) (port_with_lasting_after_operation p o (length tape)) port
      by operation.Flush is = lasting_now (after_step m (End e)) tape last p.disk (port_with_lasting_after_operation p operation.Flush (length tape)) port quiet refl refl (record { told_sectors = s.told_sectors; disk_tells = s.disk_tells; bytes_are_same = s.bytes_are_same })
      by operation.Read is = other operation.Read Read refl is refl
      by operation.ReadQueued is = other operation.ReadQueued Read refl is refl
      by operation.Write is = other operation.Write Write refl is refl
      by operation.WriteQueued is = other operation.WriteQueued Write refl is refl
      by operation.Trim is = other operation.Trim Trim refl is refl
      by operation.Identify is = no_op is
      by operation.ReadLog is = no_op is

  -- of another port
  pub lasting_ended_elsewhere : (p : DevicePort) (port q : ℕ) → e.request.port.0 ≡ port → q ≢ port → KnowsAllReplugCandidates m tape p q → KnowsAllReplugCandidates (after_step m (End e)) (tape ++ last ∷ []) p q
  lasting_ended_elsewhere p port q at ne h =
      lasting_on m (after_step m (End e)) tape (tape ++ last ∷ []) p p q refl refl
      (λ k b held. held_ended m e (port_at q) k b (ap (λ (b : Bool). b && is_flush e.request.asked.op) (ne_eqb e.request.port.0 q (λ z. ne (sym z ∙ at)))) held)
      (gains_quiet tape last (after_step m (End e)) q quiet) h

-- a page command is ended: it is no flush
pub lasting_read : (m : Machine) (tape : List Entry) (last : Entry) (p : DevicePort) (port : ℕ) (o : Operation) → IsQuiet last → client_operation_of o ≡ None → KnowsAllReplugCandidates m tape p port
    → KnowsAllReplugCandidates m (tape ++ last ∷ []) (port_with_lasting_after_operation p o (length tape)) port
lasting_read m tape last p port o quiet none h =
    lasting_on m m tape (tape ++ last ∷ []) p (port_with_lasting_after_operation p o (length tape)) port (by o none) refl (λ k b held. held) (gains_quiet tape last m port quiet) h
  where
    some_op : {A : Type 0} (op : Op) → Some op ≡ None → A
    some_op op z = absurd cc

    by : (o : Operation) → client_operation_of o ≡ None → lasting_after o p.lasting p.disk (length tape) ≡ p.lasting
    by operation.Identify n = refl
    by operation.ReadLog n = refl
    by operation.Flush n = some_op Flush n
    by operation.Read n = refl
    by operation.ReadQueued n = refl
    by operation.Write n = refl
    by operation.WriteQueued n = refl
    by operation.Trim n = refl

-- a disk comes in: the one that was in last, or another
module _ (m : Machine) (port : ℕ) (disk : Disk) (content : state.DiskBytes) (tape : List Entry) (last : Entry) (quiet : IsQuiet last) where
  pub lasting_put_in : (p new : DevicePort) → m.disk_ids (port_at port) ≡ p.disk.name → new.disk.sector_count ≡ disk.sector_count → new.lasting ≡ lasting_after_plug_or_replug p.lasting p.disk disk (length tape)
      → (disk.name ≡ p.disk.name → disk.sector_count ≡ p.disk.sector_count) → SameSectors (after_step m (PlugDisk (port_at port) disk.name disk.sector_count content)) disk port
      → KnowsAllReplugCandidates m tape p port → KnowsAllReplugCandidates (after_step m (PlugDisk (port_at port) disk.name disk.sector_count content)) (tape ++ last ∷ []) new port
  lasting_put_in p new id size is known s h = by (nat_eq disk.name p.disk.name) refl
    where
      by : (b : Bool) → nat_eq disk.name p.disk.name ≡ b → KnowsAllReplugCandidates (after_step m (PlugDisk (port_at port) disk.name disk.sector_count content)) (tape ++ last ∷ []) new port
      by true e =
          let name : disk.name ≡ p.disk.name = eqb-true disk.name p.disk.name e in
          lasting_on m (after_step m (PlugDisk (port_at port) disk.name disk.sector_count content)) tape (tape ++ last ∷ []) p new port
          (is ∙ cond-true (nat_eq disk.name p.disk.name) p.lasting (record { sectors = disk.sectors; tape_length = length tape }) e) (size ∙ known name)
          (λ k b held. held_replaced m (port_at port) disk.name disk.sector_count content (port_at port) k b (λ _. ap (λ (n : ℕ). disk.name == n) id ∙ e) held)
          (gains_quiet tape last (after_step m (PlugDisk (port_at port) disk.name disk.sector_count content)) port quiet) h
      by false e = lasting_now (after_step m (PlugDisk (port_at port) disk.name disk.sector_count content)) tape last disk new port quiet
          (is ∙ cond-false (nat_eq disk.name p.disk.name) p.lasting (record { sectors = disk.sectors; tape_length = length tape }) e) size s

  pub lasting_put_elsewhere : (p : DevicePort) (q : ℕ) → q ≢ port → KnowsAllReplugCandidates m tape p q → KnowsAllReplugCandidates (after_step m (PlugDisk (port_at port) disk.name disk.sector_count content)) (tape ++ last ∷ []) p q
  lasting_put_elsewhere p q ne h =
      lasting_on m (after_step m (PlugDisk (port_at port) disk.name disk.sector_count content)) tape (tape ++ last ∷ []) p p q refl refl
      (λ k b held. held_replaced m (port_at port) disk.name disk.sector_count content (port_at q) k b (λ e. absurd (ne (eqb-true q port e))) held)
      (gains_quiet tape last (after_step m (PlugDisk (port_at port) disk.name disk.sector_count content)) q quiet) h
