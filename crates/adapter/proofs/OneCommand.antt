-- An adapter without a command, and one with one, are guarded.
use Rattle.ata_types.specs.declared.memory.TheConstants.{PRD_BYTES, TABLE_HEAD_BYTES}
use Rattle.std.proofs.Common.{ℕ, zero, suc, ◌≡◌, ◌<◌, ◌≤◌, ◌+◌, ◌*◌, ◌||◌, not, Bool, true, false, List, [], ◌∷◌, length, slice_index, refl, sym, ◌∙◌, ap, subst, arith, inl, inr}
use Rattle.std.proofs.lemmas.Bool.{cases_eq, cases_lt, le-leb, lt-ltb}
use Rattle.adapter.specs.Device.{DevicePort, Device}
use Rattle.adapter.specs.Idle.{IsIdle, IsIdlePort}
use Rattle.adapter.specs.Rules.{InUse, InDataBlocks, IsInMemoryNotOwnedByDevice, IsStable}
use Rattle.adapter.specs.Guarded.{PassesTest, MissesRange, MissesPieces, IsGuardedSlot, IsGuardedPort, IsGuarded}
use Rattle.adapter.specs.OneCommand.{CommandLayout, is_in_span, is_in_pieces, is_read_only, is_device_writable, is_not_device_writable, SlotHasNoCommand, layout_of, HasOneCommand, NoSlotHasCommand, IsOutsideCommand}
use Rattle.adapter.proofs.Absurd.{true-false, some-none}
use Rattle.adapter.proofs.Free.{apart_free_stays}

-- ---- tests of bytes

is_from_yes : (first n at : ℕ) → first ≤ at → at < first + n → is_in_span first n at ≡ true
is_from_yes first n at low high =
    rw (le-leb first at low, lt-ltb at (first + n) high) refl

or_one : (a b : Bool) → a ≡ true → a || b ≡ true
or_one a b h = rw h refl

or_two : (a b : Bool) → b ≡ true → a || b ≡ true
or_two true b h = refl
or_two false b h = h

is_of_pieces_yes : (places : List ℕ) (k at : ℕ) → k < length places → slice_index places k ≤ at → at < slice_index places k + 512 → is_in_pieces places at ≡ true
is_of_pieces_yes [] k at small low high = absurd (omega arith)
is_of_pieces_yes (place ∷ places) zero at small low high = rw (is_from_yes place 512 at low high) refl
is_of_pieces_yes (place ∷ places) (suc k) at small low high =
    or_two (is_in_span place 512 at) _ (is_of_pieces_yes places k at (omega arith) low high)

-- the first, the second or the third of three
first_of : (a b c : Bool) → a ≡ true → a || b || c ≡ true
first_of a b c h = rw h refl

second_of : (a b c : Bool) → b ≡ true → a || b || c ≡ true
second_of a b c h = or_one (a || b) c (or_two a b h)

third_of : (a b c : Bool) → c ≡ true → a || b || c ≡ true
third_of a b c h = or_two (a || b) c h

module _ (s : CommandLayout) (at : ℕ) where
  reads_head : s.header ≤ at → at < s.header + 4 → is_read_only s at ≡ true
  reads_head low high = first_of (is_in_span s.header 4 at) (is_in_span (s.header + 8) 24 at) (is_in_span s.table (TABLE_HEAD_BYTES + PRD_BYTES * s.prd_count) at) (is_from_yes s.header 4 at low high)

  reads_rest : s.header + 8 ≤ at → at < s.header + 32 → is_read_only s at ≡ true
  reads_rest low high = second_of (is_in_span s.header 4 at) (is_in_span (s.header + 8) 24 at) (is_in_span s.table (TABLE_HEAD_BYTES + PRD_BYTES * s.prd_count) at) (is_from_yes (s.header + 8) 24 at low (omega (arith, high)))

  reads_table : s.table ≤ at → at < s.table + TABLE_HEAD_BYTES + PRD_BYTES * s.prd_count → is_read_only s at ≡ true
  reads_table low high = third_of (is_in_span s.header 4 at) (is_in_span (s.header + 8) 24 at) (is_in_span s.table (TABLE_HEAD_BYTES + PRD_BYTES * s.prd_count) at) (is_from_yes s.table (TABLE_HEAD_BYTES + PRD_BYTES * s.prd_count) at low (omega (arith, high)))

  writes_count : s.header + 4 ≤ at → at < s.header + 8 → is_device_writable s at ≡ true
  writes_count low high = first_of (is_in_span (s.header + 4) 4 at) (is_in_pieces s.places at) (is_in_span s.received_fis_area 256 at) (is_from_yes (s.header + 4) 4 at low (omega (arith, high)))

  writes_piece : InDataBlocks s.places at → is_device_writable s at ≡ true
  writes_piece w = second_of (is_in_span (s.header + 4) 4 at) (is_in_pieces s.places at) (is_in_span s.received_fis_area 256 at) (is_of_pieces_yes s.places w.number at w.number_in_range w.from w.to)

  writes_area : s.received_fis_area ≤ at → at < s.received_fis_area + 256 → is_device_writable s at ≡ true
  writes_area low high = third_of (is_in_span (s.header + 4) 4 at) (is_in_pieces s.places at) (is_in_span s.received_fis_area 256 at) (is_from_yes s.received_fis_area 256 at low high)

-- a byte that is written isn't unwritten
written_not : {A : Type 0} (s : CommandLayout) (at : ℕ) → is_device_writable s at ≡ true → is_not_device_writable s at ≡ true → A
written_not s at w u = true-false u (ap not w)

-- ---- ports with no command

free_unused : {A : Type 0} (p : DevicePort) (slot : ℕ) → SlotHasNoCommand p slot → InUse p slot → A
free_unused p slot f (inl set) = true-false set f.is_not_issued
free_unused p slot f (inr (t, is)) = some-none is f.is_not_taken

port_unused : (Tables Kept : ℕ → Type 0) (memory : ℕ → ℕ) (p : DevicePort) → ((slot : ℕ) → SlotHasNoCommand p slot) →
    (p.fre ≡ true → MissesRange Kept p.bases.fb (p.bases.fb + 256)) → IsGuardedPort Tables Kept memory p
port_unused Tables Kept memory p free area = record {
  slots_are_guarded = λ slot used. free_unused p slot (free slot) used;
  taken_pieces_are_not_kept = λ slot t is. some-none is (free slot).is_not_taken;
  received_fis_is_not_kept = area;
}

port_idle : (Tables Kept : ℕ → Type 0) (memory : ℕ → ℕ) (p : DevicePort) → IsIdlePort p → IsGuardedPort Tables Kept memory p
port_idle Tables Kept memory p i =
    port_unused Tables Kept memory p (λ slot. record { is_not_issued = i.ci_is_clear slot; is_not_taken = i.none_is_taken slot }) (λ fre. true-false fre i.fre_is_clear)

pub unused_guarded : (kept : ℕ → Bool) (d : Device) → NoSlotHasCommand d →
    ((port : ℕ) → (d.port port).fre ≡ true → MissesRange (PassesTest kept) (d.port port).bases.fb ((d.port port).bases.fb + 256)) →
    IsGuarded (PassesTest (λ _. false)) (PassesTest kept) d
unused_guarded kept d none area = record {
  tables_are_kept = λ at table. true-false table refl;
  ports_are_guarded = λ q. port_unused (PassesTest (λ _. false)) (PassesTest kept) d.memory (d.port q) (none q) (area q);
}

pub idle_guarded : (kept : ℕ → Bool) (d : Device) → IsIdle d → IsGuarded (PassesTest (λ _. false)) (PassesTest kept) d
idle_guarded kept d i = record {
  tables_are_kept = λ at table. true-false table refl;
  ports_are_guarded = λ q. port_idle (PassesTest (λ _. false)) (PassesTest kept) d.memory (d.port q) (i.ports_are_idle q);
}

pub idle_free : (at n : ℕ) (d : Device) → IsIdle d → at + n ≤ d.memory_size → IsStable (IsInMemoryNotOwnedByDevice at n) d
idle_free at n d i inside =
    apart_free_stays (PassesTest (λ _. false)) (PassesTest (λ _. true)) at n d (idle_guarded (λ _. true) d i)
    (record {
      inside = inside;
      kept = λ a low high. refl;
      no_table = λ a low high table. true-false table refl;
      no_header = λ q slot a used low high from to. free_unused (d.port q) slot (record { is_not_issued = (i.ports_are_idle q).ci_is_clear slot; is_not_taken = (i.ports_are_idle q).none_is_taken slot }) used;
    })

-- ---- one command

module _ (d : Device) (port slot : ℕ) (c : HasOneCommand d port slot) where
  abbrev s : CommandLayout
  s = layout_of d port slot c.command

  abbrev Tables : ℕ → Type 0
  Tables = PassesTest (is_read_only s)

  abbrev Kept : ℕ → Type 0
  Kept = PassesTest (is_not_device_writable s)

  places_avoid : MissesPieces Kept c.command.places
  places_avoid at kept in_places = written_not s at (writes_piece s at in_places) kept

  command_guarded : IsGuardedSlot Tables Kept d.memory (d.port port).bases.clb slot
  command_guarded = record {
    meaning = c.command.meaning;
    places = c.command.places;
    says = c.command.says;
    header_start_is_table = λ at low high. reads_head s at low high;
    header_end_is_table = λ at low high. reads_rest s at low high;
    table_is_guarded = λ at low high. reads_table s at low high;
    prdbc_is_not_kept = λ at low high kept. written_not s at (writes_count s at low high) kept;
    pieces_are_not_kept = places_avoid;
  }

  port_guarded : IsGuardedPort Tables Kept d.memory (d.port port)
  port_guarded = record {
    slots_are_guarded = λ k used.
        elim (cases_eq k slot) [
          | inl e ↦
              let P : ℕ → Type 0 = λ n. IsGuardedSlot Tables Kept d.memory (d.port port).bases.clb n in
              subst P (sym e) command_guarded
          | inr ne ↦ free_unused (d.port port) k (c.other_slots_have_no_command k ne) used
        ];
    taken_pieces_are_not_kept = λ k t is.
        elim (cases_eq k slot) [
          | inl e ↦
              let P : List ℕ → Type 0 = λ places. MissesPieces Kept places in
              subst P (sym (c.taken_has_these_places t (ap (d.port port).taken (sym e) ∙ is))) places_avoid
          | inr ne ↦ some-none is (c.other_slots_have_no_command k ne).is_not_taken
        ];
    received_fis_is_not_kept = λ fre at low high kept. written_not s at (writes_area s at low high) kept;
  }

  pub command_is_guarded : IsGuarded (PassesTest (is_read_only (layout_of d port slot c.command))) (PassesTest (is_not_device_writable (layout_of d port slot c.command))) d
  command_is_guarded = record {
    tables_are_kept = c.reads_apart_from_writes;
    ports_are_guarded = λ q.
        elim (cases_eq q port) [
          | inl e ↦
              let P : ℕ → Type 0 = λ n. IsGuardedPort Tables Kept d.memory (d.port n) in
              subst P (sym e) port_guarded
          | inr ne ↦ port_idle Tables Kept d.memory (d.port q) (c.other_ports_are_idle q ne)
        ];
  }

  or_none : {A : Type 0} (a b : Bool) → a || b ≡ false → (a ≡ false → b ≡ false → A) → A
  or_none true b h k = true-false refl h
  or_none false b h k = k refl h

  -- a byte of the header is read alone or written
  in_header : (at : ℕ) → s.header ≤ at → at < s.header + 32 → is_read_only s at || is_device_writable s at ≡ true
  in_header at low high =
      elim (cases_lt at (s.header + 4)) [
        | inl first ↦ or_one (is_read_only s at) (is_device_writable s at) (reads_head s at low first)
        | inr more ↦
            elim (cases_lt at (s.header + 8)) [
              | inl count ↦ or_two (is_read_only s at) (is_device_writable s at) (writes_count s at more count)
              | inr rest ↦ or_one (is_read_only s at) (is_device_writable s at) (reads_rest s at rest high)
            ]
      ]

  pub elsewhere_free : (at n : ℕ) → IsOutsideCommand (layout_of d port slot c.command) at n d → IsStable (IsInMemoryNotOwnedByDevice at n) d
  elsewhere_free at n e =
      apart_free_stays Tables Kept at n d command_is_guarded
      (record {
        inside = e.inside;
        kept = λ a low high. or_none (is_read_only s a) (is_device_writable s a) (e.elsewhere a low high) (λ r w. ap not w);
        no_table = λ a low high table. or_none (is_read_only s a) (is_device_writable s a) (e.elsewhere a low high) (λ r w. true-false table r);
        no_header = λ q k a used low high from to.
            elim (cases_eq q port) [
              | inl same ↦
                  elim (cases_eq k slot) [
                    | inl it ↦
                        let clb : (d.port q).bases.clb ≡ (d.port port).bases.clb = ap (λ (n : ℕ). (d.port n).bases.clb) same in
                        true-false (in_header a (omega (arith, clb, it, from)) (omega (arith, clb, it, to))) (e.elsewhere a low high)
                    | inr ne ↦
                        let P : ℕ → Type 0 = λ n. InUse (d.port n) k in
                        free_unused (d.port port) k (c.other_slots_have_no_command k ne) (subst P same used)
                  ]
              | inr ne ↦
                  free_unused (d.port q) k (record { is_not_issued = (c.other_ports_are_idle q ne).ci_is_clear k; is_not_taken = (c.other_ports_are_idle q ne).none_is_taken k }) used
            ];
      })
