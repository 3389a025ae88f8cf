-- The disks of the ports, as a model has them: two for each port that has some.
use Rattle.std.proofs.Common.{ℕ, Bool, true, false, zero, suc, ◌≡◌, ◌≢◌, ◌<◌, ◌∙◌, ◌&&◌, List, [], ◌∷◌, Option, None, Some, refl, sym, ap, subst, inl, inr, arith, length, slice_index_or, slice_set, get_or-set_same, get_or-set_other}
use Rattle.std.proofs.lemmas.Bool.Decides.{eqb_tells}
use Rattle.std.proofs.lemmas.List.{get_or_default}
use Rattle.std.specs.Prelude.{if◌then◌else◌, is_some, nat_eq, option_map}
use Rattle.adapter.specs.Device.{Disk}
use Rattle.adapter.specs.Memory.{changed}
use Rattle.adapter.specs.Steps.{disk_after, disk_cleared, next_sector}
use Rattle.device_model.proofs.Places.{fun_ext, changed_same, changed_other}
use Rattle.sector_store.specs.declared.store.Failures.{Failures}
use Rattle.device_model.specs.Disks.{bay_of, disk_in_bay, disk_number, numbered_disk, disk_over, bay_failures, disk_failures, has_cache, identity, identity_of, is_same_index, lasting_of, page_source_of, disk_index_of}
use Rattle.device_model.specs.StepEffects.{NoCallFailed, StepKeeps}
use Rattle.device_model.specs.ModelState.{all_bay_stores_are_known, device_at, media_of, all_media_at, tells}
use Rattle.device_model.specs.PortView.{Media, media_after_move, media_after_clear, taken_of}
use Rattle.device_model.specs.WholeAdapter.{HasDisks, all_media_after_move, all_media_after_clear}
use Rattle.device_model.specs.declared.bay.Bay.{Bay}
use Rattle.device_model.specs.declared.bay.PageSource.{PageSource}
use Rattle.device_model.specs.declared.cache.Cache.{Cache}
use Rattle.device_model.specs.declared.disks.ModelDisk.{ModelDisk}
use Rattle.device_model.specs.declared.disks.DiskIndex.{DiskIndex}
use Rattle.device_model.specs.declared.disks.DiskIndex.TheVariants.{Disk0, Disk1}
use Rattle.device_model.specs.declared.model.Model.{Model}
use Rattle.device_model.specs.declared.port.TakenCommand.{TakenCommand}
use Rattle.device_model.specs.declared.steps.NextMove.{NextMove}
use Rattle.device_model.proofs.Absurd.{some-none, some_one, true-false}
use Rattle.device_model.proofs.Cleared.{cleared_tells}
use Rattle.device_model.proofs.Transfers.{still_tells}

-- ---- which disk it is

pub same_self : (w : DiskIndex) → is_same_index w w ≡ true
same_self Disk0 = refl
same_self Disk1 = refl

pub not_same : (w v : DiskIndex) → w ≢ v → is_same_index w v ≡ false
not_same Disk0 Disk0 ne = absurd (ne refl)
not_same Disk0 Disk1 ne = refl
not_same Disk1 Disk0 ne = refl
not_same Disk1 Disk1 ne = absurd (ne refl)

pub one_number : (w v : DiskIndex) → disk_number w ≡ disk_number v → w ≡ v
one_number Disk0 Disk0 e = refl
one_number Disk0 Disk1 e = absurd (omega (arith, e))
one_number Disk1 Disk0 e = absurd (omega (arith, e))
one_number Disk1 Disk1 e = refl

pub number_small : (w : DiskIndex) → disk_number w < 2
number_small Disk0 = omega arith
number_small Disk1 = omega arith

pub of_number : (w : DiskIndex) (number : ℕ) → disk_number w ≡ number → w ≡ (if nat_eq number 0 then Disk0 else Disk1)
of_number w number e = subst (λ n. w ≡ (if nat_eq n 0 then Disk0 else Disk1)) e (by w)
  where
    by : (v : DiskIndex) → v ≡ (if nat_eq (disk_number v) 0 then Disk0 else Disk1)
    by Disk0 = refl
    by Disk1 = refl

and_turned : (a b : Bool) → a && b ≡ (b && a)
and_turned true true = refl
and_turned true false = refl
and_turned false true = refl
and_turned false false = refl

module _ {S : Type 0} where
  -- ---- the two of a port

  in_is : (b : Bay S) → disk_in_bay b b.which ≡ b.disk
  in_is b = ap (λ x. if x then b.disk else b.other) (same_self b.which)

  by_number : (f : ModelDisk S → Bool) (b : Bay S) → f (disk_in_bay b Disk0) && f (disk_in_bay b Disk1) ≡ (f b.disk && f b.other)
  by_number f b = by b.which
    where
      by : (w : DiskIndex) → f (if is_same_index Disk0 w then b.disk else b.other) && f (if is_same_index Disk1 w then b.disk else b.other) ≡ (f b.disk && f b.other)
      by Disk0 = refl
      by Disk1 = and_turned (f b.other) (f b.disk)

  -- what holds of both disks holds whichever is in
  pub both_turned : (f : ModelDisk S → Bool) (old new : Bay S) → ((w : DiskIndex) → disk_in_bay new w ≡ disk_in_bay old w) → f new.disk && f new.other ≡ (f old.disk && f old.other)
  both_turned f old new each = sym (by_number f new) ∙ ((λ i. f (each Disk0 i) && f (each Disk1 i)) ∙ by_number f old)

  -- what is kept of both disks is kept of the one that is in
  pub in_kept : {X : Type 0} (f : ModelDisk S → X) (old new : Bay S) → new.which ≡ old.which → ((w : DiskIndex) → f (disk_in_bay new w) ≡ f (disk_in_bay old w)) → f new.disk ≡ f old.disk
  in_kept f old new same each = sym (ap f (in_is new)) ∙ (each new.which ∙ (ap (λ w. f (disk_in_bay old w)) same ∙ ap f (in_is old)))

  pub kept_in : {X : Type 0} (f : ModelDisk S → X) (b : Bool) (new old other : ModelDisk S) → f new ≡ f old → f (if b then new else other) ≡ f (if b then old else other)
  kept_in f true new old other same = same
  kept_in f false new old other same = refl

  pub kept_out : (b : Bool) (new old other : ModelDisk S) → b ≡ false → (if b then new else other) ≡ (if b then old else other)
  kept_out true new old other e = absurd (let no : true ≡ false = e in cc)
  kept_out false new old other e = refl

  -- ---- those of all ports

  -- a port that has some is one of the list
  pub there : (bays : List (Option (Bay S))) (port : ℕ) (b : Bay S) → slice_index_or bays port None ≡ Some b → port < length bays
  there [] port b is = some-none is refl
  there (x ∷ bays) zero b is = omega arith
  there (x ∷ bays) (suc port) b is = let rest = there bays port b is in omega (arith, rest)

  -- what stands in a place of the list is what the port has
  pub seat_is : (m : Model S) (place port : ℕ) (x : Option (Bay S)) (b : Bay S) → place ≡ port → place < length m.bays.items →
      x ≡ slice_index_or m.bays.items place x → x ≡ Some b → bay_of m port ≡ Some b
  seat_is m place port x b at small value is =
      ap (λ k. slice_index_or m.bays.items k None) (sym at) ∙ (sym (get_or_default m.bays.items place x None small) ∙ (sym value ∙ is))

  -- and where something does, it has disks
  pub found_bay : (m : Model S) (place port : ℕ) (bays : List (Option (Bay S))) → place ≡ port → bays ≡ m.bays.items → is_some (slice_index_or bays place None) ≡ true →
      (b : Bay S) × (bay_of m port ≡ Some b)
  found_bay m place port bays at same some =
      let there : slice_index_or bays place None ≡ bay_of m port = λ i. slice_index_or (same i) (at i) None in
      by (bay_of m port) refl (ap is_some (sym there) ∙ some)
    where
      by : (x : Option (Bay S)) → bay_of m port ≡ x → is_some (bay_of m port) ≡ true → (b : Bay S) × (bay_of m port ≡ Some b)
      by (Some b) is e = (b, is)
      by None is e = true-false e (ap is_some is)

  pub no_bay : (m : Model S) (place port : ℕ) (bays : List (Option (Bay S))) → place ≡ port → bays ≡ m.bays.items → is_some (slice_index_or bays place None) ≡ false →
      bay_of m port ≡ None
  no_bay m place port bays at same none =
      let there : slice_index_or bays place None ≡ bay_of m port = λ i. slice_index_or (same i) (at i) None in
      by (bay_of m port) refl (ap is_some (sym there) ∙ none)
    where
      by : (x : Option (Bay S)) → bay_of m port ≡ x → is_some (bay_of m port) ≡ false → bay_of m port ≡ None
      by (Some b) is e = true-false (ap is_some is) e
      by None is e = is

  -- what is the same of a port's is the same of each, where it is put there
  pub set_same : {X : Type 0} (f : Option (Bay S) → X) (bays : List (Option (Bay S))) (port : ℕ) (new : Option (Bay S)) → f new ≡ f (slice_index_or bays port None) →
      (q : ℕ) → f (slice_index_or (slice_set bays port new) q None) ≡ f (slice_index_or bays q None)
  set_same f [] port new same q = refl
  set_same f (b ∷ bays) zero new same zero = same
  set_same f (b ∷ bays) zero new same (suc q) = refl
  set_same f (b ∷ bays) (suc port) new same zero = refl
  set_same f (b ∷ bays) (suc port) new same (suc q) = set_same f bays port new same q

  -- nothing is another where it stands there
  pub set_none : (bays : List (Option (Bay S))) (port : ℕ) (x : Option (Bay S)) → slice_index_or bays port None ≡ x → slice_set bays port x ≡ bays
  set_none [] port x is = refl
  set_none (b ∷ bays) zero x is = ap (λ (y : Option (Bay S)). y ∷ bays) (sym is)
  set_none (b ∷ bays) (suc port) x is = ap (λ (l : List (Option (Bay S))). b ∷ l) (set_none bays port x is)

  -- all tell as before where what is put there does
  pub all_tell_set : (told : S → Option (ℕ → List ℕ)) (bays : List (Option (Bay S))) (port : ℕ) (new : Option (Bay S)) →
      tells told new ≡ tells told (slice_index_or bays port None) → all_bay_stores_are_known told (slice_set bays port new) ≡ all_bay_stores_are_known told bays
  all_tell_set told [] port new same = refl
  all_tell_set told (b ∷ bays) zero new same = ap (λ x. x && all_bay_stores_are_known told bays) same
  all_tell_set told (b ∷ bays) (suc port) new same = ap (λ x. tells told b && x) (all_tell_set told bays port new same)

  -- what is the same of one port's is so of each, where the others are as they were
  pub each_port : {X : Type 0} (f : Option (Bay S) → X) (old new : Model S) (port : ℕ) → f (bay_of new port) ≡ f (bay_of old port) →
      ((q : ℕ) → q ≢ port → bay_of new q ≡ bay_of old q) → (q : ℕ) → f (bay_of new q) ≡ f (bay_of old q)
  each_port f old new port here others q =
      elim (eqb_tells q port) [
        | inl same ↦ subst (λ k. f (bay_of new k) ≡ f (bay_of old k)) (sym same.1) here
        | inr differ ↦ ap f (others q differ.1)
      ]

  -- what is the same of both disks, and which is in, is the same of the disk that is in
  pub in_both : {X Y : Type 0} (f : ModelDisk S → X) (g : X → Y) (none : Y) (x y : Option (Bay S)) →
      option_map (λ (b : Bay S). b.which) y ≡ option_map (λ (b : Bay S). b.which) x →
      ((w : DiskIndex) → option_map f (option_map (λ (b : Bay S). disk_in_bay b w) y) ≡ option_map f (option_map (λ (b : Bay S). disk_in_bay b w) x)) →
      (F : Option (Bay S) → Y) → F None ≡ none → ((b : Bay S) → F (Some b) ≡ g (f b.disk)) → F y ≡ F x
  in_both f g none None None which each F empty some = refl
  in_both f g none None (Some b) which each F empty some = some-none refl which
  in_both f g none (Some a) None which each F empty some = some-none which refl
  in_both f g none (Some a) (Some b) which each F empty some =
      some b ∙ (ap g (in_kept f a b (some_one which) (λ w. some_one (each w))) ∙ sym (some a))

  pub identity_kept : (size : S → ℕ) (old new : Model S) (port : ℕ) → disk_index_of new port ≡ disk_index_of old port →
      ((w : DiskIndex) → option_map (identity size) (numbered_disk new port w) ≡ option_map (identity size) (numbered_disk old port w)) →
      identity_of size new port ≡ identity_of size old port
  identity_kept size old new port which each =
      in_both (identity size) Some None (bay_of old port) (bay_of new port) which each (option_map (λ (b : Bay S). identity size b.disk)) refl (λ b. refl)

  pub failures_kept : (failures : S → Option Failures) (old new : Model S) (port : ℕ) → disk_index_of new port ≡ disk_index_of old port →
      ((w : DiskIndex) → option_map (λ (x : ModelDisk S). failures x.store) (numbered_disk new port w) ≡ option_map (λ (x : ModelDisk S). failures x.store) (numbered_disk old port w)) →
      disk_failures failures new port ≡ disk_failures failures old port
  failures_kept failures old new port which each =
      in_both (λ (x : ModelDisk S). failures x.store) (λ (f : Option Failures). f) None (bay_of old port) (bay_of new port) which each (bay_failures failures) refl (λ b. refl)

  -- ---- another bay stands in a port

  module _ (m new : Model S) (port : ℕ) (a b : Bay S) (was : bay_of m port ≡ Some a) (items : new.bays.items ≡ slice_set m.bays.items port (Some b)) where
    pub seated_here : bay_of new port ≡ Some b
    seated_here =
        ap (λ (l : List (Option (Bay S))). slice_index_or l port None) items ∙ get_or-set_same m.bays.items port (Some b) None (there m.bays.items port a was)

    pub seated_others : (q : ℕ) → q ≢ port → bay_of new q ≡ bay_of m q
    seated_others q ne = ap (λ (l : List (Option (Bay S))). slice_index_or l q None) items ∙ get_or-set_other m.bays.items port q (Some b) None ne

    pub seated_same : {X : Type 0} (f : Option (Bay S) → X) → f (Some b) ≡ f (Some a) → (q : ℕ) → f (bay_of new q) ≡ f (bay_of m q)
    seated_same f same = each_port f m new port (ap f seated_here ∙ (same ∙ ap f (sym was))) seated_others

    seated_out : (w : DiskIndex) → ((w ≢ a.which) → disk_in_bay b w ≡ disk_in_bay a w) → (q : ℕ) → disk_index_of m q ≢ Some w → numbered_disk new q w ≡ numbered_disk m q w
    seated_out w out q ne =
        elim (eqb_tells q port) [
          | inl same ↦
              let Q : ℕ → Type 0 = λ k. disk_index_of m k ≢ Some w → numbered_disk new k w ≡ numbered_disk m k w in
              subst Q (sym same.1)
              (λ other.
              let apart : w ≢ a.which = λ e. other (ap (option_map (λ (x : Bay S). x.which)) was ∙ ap Some (sym e)) in
              ap (option_map (λ (x : Bay S). disk_in_bay x w)) seated_here ∙ (ap Some (out apart) ∙ ap (option_map (λ (x : Bay S). disk_in_bay x w)) (sym was))) ne
          | inr differ ↦ ap (option_map (λ (x : Bay S). disk_in_bay x w)) (seated_others q differ.1)
        ]

    pub seated_keeps : (size : S → ℕ) → ((w : DiskIndex) → w ≢ a.which → disk_in_bay b w ≡ disk_in_bay a w) → ((w : DiskIndex) → identity size (disk_in_bay b w) ≡ identity size (disk_in_bay a w)) →
        b.cache.is_on ≡ a.cache.is_on → new.queue ≡ m.queue → new.accesses ≡ m.accesses → StepKeeps size m new
    seated_keeps size out same cached queue accesses = record {
      disks_not_last_in_are_kept = λ q w ne. seated_out w (out w) q ne;
      identities_are_kept = λ q w. seated_same (λ x. option_map (identity size) (option_map (λ (y : Bay S). disk_in_bay y w) x)) (ap Some (same w)) q;
      cache_modes_are_kept = seated_same has_cache cached;
      queue_is_kept = queue;
      access_count_is_kept = accesses;
    }

    -- nothing else is behind the ports, where it is the same behind this one
    pub seated_behind : (size : S → ℕ) (told : S → Option (ℕ → List ℕ)) → media_of size told (Some b) ≡ media_of size told (Some a) → tells told (Some b) ≡ tells told (Some a) →
        all_media_at size told new ≡ all_media_at size told m
    seated_behind size told same tells_so = λ i. record { disks_tell_sectors = tell i; media = fun_ext behind i }
      where
        tell : all_bay_stores_are_known told new.bays.items ≡ all_bay_stores_are_known told m.bays.items
        tell = ap (all_bay_stores_are_known told) items ∙ all_tell_set told m.bays.items port (Some b) (tells_so ∙ ap (tells told) (sym was))

        behind : (q : ℕ) → media_of size told (bay_of new q) ≡ media_of size told (bay_of m q)
        behind = seated_same (media_of size told) same

    -- what is behind the ports then
    pub seated_outside : (size : S → ℕ) (told : S → Option (ℕ → List ℕ)) (media : Media) → tells told (Some b) ≡ tells told (Some a) → media_of size told (Some b) ≡ media →
        all_media_at size told new ≡ record (all_media_at size told m) { media = changed (all_media_at size told m).media port media }
    seated_outside size told media same is = λ i. record { disks_tell_sectors = tell i; media = fun_ext behind i }
      where
        was_media : ℕ → Media
        was_media = (all_media_at size told m).media

        tell : all_bay_stores_are_known told new.bays.items ≡ all_bay_stores_are_known told m.bays.items
        tell = ap (all_bay_stores_are_known told) items ∙ all_tell_set told m.bays.items port (Some b) (same ∙ ap (tells told) (sym was))

        behind : (q : ℕ) → media_of size told (bay_of new q) ≡ changed was_media port media q
        behind q =
            elim (eqb_tells q port) [
              | inl here ↦
                  subst (λ k. media_of size told (bay_of new k) ≡ changed was_media port media k) (sym here.1)
                  (ap (media_of size told) seated_here ∙ (is ∙ sym (changed_same was_media port media)))
              | inr differ ↦ ap (media_of size told) (seated_others q differ.1) ∙ sym (changed_other was_media port media q differ.1)
            ]

  -- another store stands for the disk that is in, and another cache
  abbrev pub with_store : Bay S → S → Cache → Bay S
  with_store b store cache = record b { disk = record b.disk { store = store }; cache = cache }

  module _ (m new : Model S) (port : ℕ) (a b : Bay S) (was : bay_of m port ≡ Some a) (items : new.bays.items ≡ slice_set m.bays.items port (Some b))
      (rest : b ≡ with_store a b.disk.store b.cache) where
    store_which : b.which ≡ a.which
    store_which = ap (λ (x : Bay S). x.which) rest

    pub store_out : (w : DiskIndex) → w ≢ a.which → disk_in_bay b w ≡ disk_in_bay a w
    store_out w ne = ap (λ (x : Bay S). disk_in_bay x w) rest ∙ kept_out (is_same_index w a.which) (record a.disk { store = b.disk.store }) a.disk a.other (not_same w a.which ne)

    pub store_kept : {X : Type 0} (f : ModelDisk S → X) → f (record a.disk { store = b.disk.store }) ≡ f a.disk → (w : DiskIndex) → f (disk_in_bay b w) ≡ f (disk_in_bay a w)
    store_kept f same w = ap (λ (x : Bay S). f (disk_in_bay x w)) rest ∙ kept_in f (is_same_index w a.which) (record a.disk { store = b.disk.store }) a.disk a.other same

    pub store_keeps : (size : S → ℕ) → size b.disk.store ≡ size a.disk.store → b.cache.is_on ≡ a.cache.is_on → new.queue ≡ m.queue → new.accesses ≡ m.accesses → StepKeeps size m new
    store_keeps size sectors =
        seated_keeps m new port a b was items size store_out (store_kept (identity size) (ap (λ (n : ℕ). record { serial = a.disk.serial; size = n }) sectors))

    pub store_fine : (failures : S → Option Failures) → failures b.disk.store ≡ failures a.disk.store → NoCallFailed failures m new
    store_fine failures fine q w =
        seated_same m new port a b was items (λ x. option_map (λ (y : ModelDisk S). failures y.store) (option_map (λ (y : Bay S). disk_in_bay y w) x))
        (ap Some (store_kept (λ (y : ModelDisk S). failures y.store) fine w)) q

    -- which is in and what they say stays, of each port
    pub store_whichs : (q : ℕ) → disk_index_of new q ≡ disk_index_of m q
    store_whichs = seated_same m new port a b was items (option_map (λ (x : Bay S). x.which)) (ap Some store_which)

    pub store_says : (q : ℕ) → page_source_of new q ≡ page_source_of m q
    store_says = seated_same m new port a b was items (option_map (λ (x : Bay S). x.page_source)) (ap (λ (x : Bay S). Some x.page_source) rest)

    module _ (size : S → ℕ) (told : S → Option (ℕ → List ℕ)) where
      abbrev was_put : List Disk
      was_put = (media_of size told (Some a)).plug_history

      store_media : lasting_of told b ≡ lasting_of told a →
          media_of size told (Some b) ≡ record { disk = disk_over a.which (size b.disk.store) (told b.disk.store); plug_history = was_put; lasting = lasting_of told a }
      store_media lasts =
          let put : (media_of size told (Some b)).plug_history ≡ was_put = ap (λ (x : Bay S). (media_of size told (Some x)).plug_history) rest in
          λ i. record { disk = disk_over (store_which i) (size b.disk.store) (told b.disk.store); plug_history = put i; lasting = lasts i }

      store_tells : is_some (told b.disk.store) ≡ is_some (told a.disk.store) → tells told (Some b) ≡ tells told (Some a)
      store_tells same = ap (λ (x : Bay S). tells told (Some x)) rest ∙ ap (λ x. x && is_some (told a.other.store)) same

      -- sectors were cleared
      pub outside_zeros : (first count : ℕ) → lasting_of told b ≡ lasting_of told a →
          disk_over a.which (size b.disk.store) (told b.disk.store) ≡ disk_cleared (disk_over a.which (size a.disk.store) (told a.disk.store)) first count →
          all_media_at size told new ≡ all_media_after_clear (all_media_at size told m) port first count
      outside_zeros first count lasts is =
          seated_outside m new port a b was items size told _
          (store_tells (ap (λ (d : Disk). is_some d.sectors) is ∙ cleared_tells (disk_over a.which (size a.disk.store) (told a.disk.store)) first count))
          (store_media lasts
          ∙ (ap (λ (d : Disk). record { disk = d; plug_history = was_put; lasting = lasting_of told a }) is ∙ ap (λ x. media_after_clear (media_of size told x) first count) (sym was)))

      -- a piece was moved
      pub outside_moved : (next : NextMove) (r : TakenCommand) (bytes : List ℕ) → lasting_of told b ≡ lasting_of told a → next.operation ≡ r.operation → next.sector ≡ next_sector (taken_of r) →
          disk_over a.which (size b.disk.store) (told b.disk.store)
          ≡ disk_after next.operation (disk_over a.which (size a.disk.store) (told a.disk.store)) next.sector bytes →
          all_media_at size told new ≡ all_media_after_move (all_media_at size told m) port (taken_of r) bytes
      outside_moved next r bytes lasts kind sector is =
          seated_outside m new port a b was items size told _ (store_tells (ap (λ (d : Disk). is_some d.sectors) is_after ∙ still_tells r.operation old (next_sector (taken_of r)) bytes))
          (store_media lasts ∙ (ap (λ (d : Disk). record { disk = d; plug_history = was_put; lasting = lasting_of told a }) is_after ∙ ap (λ x. media_after_move (media_of size told x) (taken_of r) bytes) (sym was)))
        where
          old : Disk
          old = disk_over a.which (size a.disk.store) (told a.disk.store)

          is_after : disk_over a.which (size b.disk.store) (told b.disk.store) ≡ disk_after r.operation old (next_sector (taken_of r)) bytes
          is_after = is ∙ (λ i. disk_after ((kind i)) old (sector i) bytes)

      -- the store tells what it told
      pub outside_kept : size b.disk.store ≡ size a.disk.store → told b.disk.store ≡ told a.disk.store → lasting_of told b ≡ lasting_of told a →
          all_media_at size told new ≡ all_media_at size told m
      outside_kept sizes tells_so lasts =
          seated_behind m new port a b was items size told
          (store_media lasts ∙ (λ i. record { disk = disk_over a.which (sizes i) (tells_so i); plug_history = was_put; lasting = lasting_of told a })) (store_tells (ap is_some tells_so))

  -- ---- the disks of a port are others, if it has some

  module _ (put : Bay S → Bay S) (m new : Model S) (port : ℕ) (items : new.bays.items ≡ slice_set m.bays.items port (option_map put (bay_of m port))) where
    pub put_same : {X : Type 0} (f : Option (Bay S) → X) → ((b : Bay S) → bay_of m port ≡ Some b → f (Some (put b)) ≡ f (Some b)) → (q : ℕ) →
        f (bay_of new q) ≡ f (bay_of m q)
    put_same f same q =
        ap (λ (l : List (Option (Bay S))). f (slice_index_or l q None)) items
        ∙ set_same f m.bays.items port (option_map put (bay_of m port)) (by (bay_of m port) refl) q
      where
        by : (x : Option (Bay S)) → bay_of m port ≡ x → f (option_map put (bay_of m port)) ≡ f (bay_of m port)
        by None is = ap (λ x. f (option_map put x)) is ∙ sym (ap f is)
        by (Some b) is = ap (λ x. f (option_map put x)) is ∙ (same b is ∙ sym (ap f is))

    pub put_others : (q : ℕ) → q ≢ port → bay_of new q ≡ bay_of m q
    put_others q ne = ap (λ (l : List (Option (Bay S))). slice_index_or l q None) items ∙ get_or-set_other m.bays.items port q (option_map put (bay_of m port)) None ne

    put_here : bay_of new port ≡ option_map put (bay_of m port)
    put_here = by (bay_of m port) refl
      where
        by : (x : Option (Bay S)) → bay_of m port ≡ x → bay_of new port ≡ option_map put (bay_of m port)
        by None is =
            ap (λ (l : List (Option (Bay S))). slice_index_or l port None)
            (items ∙ set_none m.bays.items port (option_map put (bay_of m port)) (is ∙ sym (ap (option_map put) is)))
            ∙ (is ∙ sym (ap (option_map put) is))
        by (Some b) is =
            ap (λ (l : List (Option (Bay S))). slice_index_or l port None) items
            ∙ get_or-set_same m.bays.items port (option_map put (bay_of m port)) None (there m.bays.items port b is)

    -- what is behind the ports then
    pub put_outside : (size : S → ℕ) (told : S → Option (ℕ → List ℕ)) (media : Media → Media) → ((b : Bay S) → bay_of m port ≡ Some b → tells told (Some (put b)) ≡ tells told (Some b)) →
        media_of size told (option_map put (bay_of m port)) ≡ media (media_of size told (bay_of m port)) →
        all_media_at size told new ≡ record (all_media_at size told m) { media = changed (all_media_at size told m).media port (media ((all_media_at size told m).media port)) }
    put_outside size told media same is = λ i. record { disks_tell_sectors = tell i; media = fun_ext behind i }
      where
        was_media : ℕ → Media
        was_media = (all_media_at size told m).media

        by : (x : Option (Bay S)) → bay_of m port ≡ x → tells told (option_map put (bay_of m port)) ≡ tells told (bay_of m port)
        by None is = ap (λ x. tells told (option_map put x)) is ∙ sym (ap (tells told) is)
        by (Some b) is = ap (λ x. tells told (option_map put x)) is ∙ (same b is ∙ sym (ap (tells told) is))

        tell : all_bay_stores_are_known told new.bays.items ≡ all_bay_stores_are_known told m.bays.items
        tell = ap (all_bay_stores_are_known told) items ∙ all_tell_set told m.bays.items port (option_map put (bay_of m port)) (by (bay_of m port) refl)

        behind : (q : ℕ) → media_of size told (bay_of new q) ≡ changed was_media port (media (was_media port)) q
        behind q =
            elim (eqb_tells q port) [
              | inl here ↦
                  subst (λ k. media_of size told (bay_of new k) ≡ changed was_media port (media (was_media port)) k) (sym here.1)
                  (ap (media_of size told) put_here ∙ (is ∙ sym (changed_same was_media port (media (was_media port)))))
              | inr differ ↦ ap (media_of size told) (put_others q differ.1) ∙ sym (changed_other was_media port (media (was_media port)) q differ.1)
            ]

    pub put_keeps : (size : S → ℕ) → ((b : Bay S) → bay_of m port ≡ Some b → (w : DiskIndex) → disk_in_bay (put b) w ≡ disk_in_bay b w) →
        ((b : Bay S) → bay_of m port ≡ Some b → (put b).cache.is_on ≡ b.cache.is_on) → new.queue ≡ m.queue → new.accesses ≡ m.accesses → StepKeeps size m new
    put_keeps size same cached queue accesses = record {
      disks_not_last_in_are_kept = λ q w _. put_same (option_map (λ (b : Bay S). disk_in_bay b w)) (λ b is. ap Some (same b is w)) q;
      identities_are_kept = λ q w. put_same (λ x. option_map (identity size) (option_map (λ (b : Bay S). disk_in_bay b w) x)) (λ b is. ap (λ (d : ModelDisk S). Some (identity size d)) (same b is w)) q;
      cache_modes_are_kept = put_same has_cache cached;
      queue_is_kept = queue;
      access_count_is_kept = accesses;
    }

  -- ---- what the disks of a port say is another

  module _ (says : PageSource → PageSource) (m new : Model S) (port : ℕ)
      (items : new.bays.items ≡ slice_set m.bays.items port (option_map (λ (b : Bay S). record b { page_source = says b.page_source }) (bay_of m port))) where
    abbrev saying : Bay S → Bay S
    saying b = record b { page_source = says b.page_source }

    pub saying_same : {X : Type 0} (f : Option (Bay S) → X) → ((b : Bay S) → f (Some (saying b)) ≡ f (Some b)) → (q : ℕ) → f (bay_of new q) ≡ f (bay_of m q)
    saying_same f same q = put_same saying m new port items f (λ b _. same b) q

    pub saying_others : (q : ℕ) → q ≢ port → bay_of new q ≡ bay_of m q
    saying_others q ne = put_others saying m new port items q ne

    pub saying_here : page_source_of new port ≡ option_map says (page_source_of m port)
    saying_here = ap (option_map (λ (b : Bay S). b.page_source)) (put_here saying m new port items) ∙ by (bay_of m port)
      where
        by : (x : Option (Bay S)) → option_map (λ (b : Bay S). b.page_source) (option_map saying x) ≡ option_map says (option_map (λ (b : Bay S). b.page_source) x)
        by None = refl
        by (Some b) = refl

    pub saying_outside : (size : S → ℕ) (told : S → Option (ℕ → List ℕ)) → all_media_at size told new ≡ all_media_at size told m
    saying_outside size told =
        λ i. record { disks_tell_sectors = tell i; media = fun_ext (saying_same (media_of size told) (λ b. refl)) i }
      where
        by : (x : Option (Bay S)) → tells told (option_map saying x) ≡ tells told x
        by None = refl
        by (Some b) = refl

        tell : all_bay_stores_are_known told new.bays.items ≡ all_bay_stores_are_known told m.bays.items
        tell = ap (all_bay_stores_are_known told) items ∙ all_tell_set told m.bays.items port (option_map saying (bay_of m port)) (by (bay_of m port))

    pub saying_keeps : (size : S → ℕ) → new.queue ≡ m.queue → new.accesses ≡ m.accesses → StepKeeps size m new
    saying_keeps size queue accesses = put_keeps saying m new port items size (λ b _ w. refl) (λ b _. refl) queue accesses

  -- ---- ports that have disks

  module _ (size : S → ℕ) (told : S → Option (ℕ → List ℕ)) where
    pub has_disks : (m : Model S) (port : ℕ) (a : Bay S) → bay_of m port ≡ Some a → HasDisks (device_at size told m) port
    has_disks m port a was = λ none. by (ap (λ x. (media_of size told x).plug_history) (sym was) ∙ none)
      where
        by : (media_of size told (Some a)).plug_history ≡ [] → ⊥
        by e = absurd (cc e)

    pub found_disks : (m : Model S) (place port : ℕ) (bays : List (Option (Bay S))) → place ≡ port → bays ≡ m.bays.items →
        is_some (slice_index_or bays place None) ≡ true → HasDisks (device_at size told m) port
    found_disks m place port bays at same some = let bay = found_bay m place port bays at same some in has_disks m port bay.0 bay.1

    pub no_disks : (m : Model S) (port : ℕ) → bay_of m port ≡ None → HasDisks (device_at size told m) port → ⊥
    no_disks m port none has = has (ap (λ x. (media_of size told x).plug_history) none)

    pub disks_kept : (old new : Model S) (port : ℕ) → disk_index_of new port ≡ disk_index_of old port → HasDisks (device_at size told old) port → HasDisks (device_at size told new) port
    disks_kept old new port which has = by (bay_of new port) (bay_of old port) refl refl
      where
        by : (x y : Option (Bay S)) → bay_of new port ≡ x → bay_of old port ≡ y → HasDisks (device_at size told new) port
        by (Some b) y is was = has_disks new port b is
        by None None is was = absurd (no_disks old port was has)
        by None (Some a) is was =
            let none : disk_index_of new port ≡ None = ap (option_map (λ (b : Bay S). b.which)) is in
            let some : disk_index_of old port ≡ Some a.which = ap (option_map (λ (b : Bay S). b.which)) was in
            some-none some (sym which ∙ none)

    -- a port whose disk has sectors has disks
    pub sized_disks : (m : Model S) (port sector : ℕ) → sector < ((device_at size told m).port port).disk.sector_count → HasDisks (device_at size told m) port
    sized_disks m port sector below = by (bay_of m port) refl
      where
        by : (x : Option (Bay S)) → bay_of m port ≡ x → HasDisks (device_at size told m) port
        by (Some b) is = has_disks m port b is
        by None is =
            let none : ((device_at size told m).port port).disk.sector_count ≡ 0 = ap (λ x. (media_of size told x).disk.sector_count) is in
            absurd (omega (arith, below, none))
