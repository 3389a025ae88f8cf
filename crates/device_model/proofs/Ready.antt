-- Where a command may be done to its end: which moves are left of it, and that each has its place.
use Rattle.std.proofs.Common.{ℕ, Bool, true, false, zero, suc, ◌≡◌, ◌<◌, ◌≤◌, ◌+◌, ◌-◌, ◌*◌, ◌/◌, ◌^◌, ◌⊎◌, List, [], ◌∷◌, length, slice_index, slice_index_or, Option, None, Some, All, refl, sym, ◌∙◌, ap, subst, inl, inr, arith, length-append}
use Rattle.std.proofs.lemmas.Bool.{cases_lt}
use Rattle.std.proofs.lemmas.List.{get_or_append_left, get_or-append_right}
use Rattle.std.specs.Prelude.{IfSome}
use Rattle.std.specs.Option.{SomeIff}
use Rattle.std.specs.Vec.{vec_len}
use Rattle.adapter.specs.AskedSteps.{DoesFetch}
use Rattle.adapter.specs.Commands.{Meaning, sends_page}
use Rattle.adapter.specs.Device.{Device, DevicePort, FetchedCommand}
use Rattle.adapter.specs.Decoding.{DecodesTo, pieces, piece_addresses}
use Rattle.adapter.specs.Steps.{Can, IsAloneOrAllAreQueued, WorksOn, admits, newly_fetched, port_after_fetch}
use Rattle.adapter.specs.Steps.DeviceTransition.{Fetch}
use Rattle.adapter.specs.declared.command.Operation.{Operation}
use Rattle.adapter.specs.declared.command.Prd.{Prd}
use Rattle.device_model.proofs.Absurd.{some-none, some_one, true-false}
use Rattle.adapter.proofs.SaysLemmas.{says_meaning, says_places, cut_length, cut_index}
use Rattle.device_model.specs.Finishing.{HasFinishablePageCommand, FindsPageCommandAndWhetherItCanEnd, IsInside, PiecesInside, HasMovesLeftInMemory, HasMovesAndTrimRunsLeft, MayFinish, MayTakePageCommand}
use Rattle.device_model.specs.FetchedBytes.{IsNewlyTaken, bytes_of}
use Rattle.device_model.specs.WriteCaches.{HasRoomForOldSectors}
use Rattle.device_model.specs.Trims.{HasClearsLeft, sectors_left_to_change}
use Rattle.device_model.specs.Slots.{AdmitsByHaltAndTaken, MayTakeIfDecoded, IsFetchableIfHaltAdmits, WorksOnIn}
use Rattle.device_model.specs.WordBits.{word_bits}
use Rattle.device_model.specs.PortView.{Media, halt_of, taken_in, port_of, taken_of, reset_port_without_disk}
use Rattle.device_model.specs.WholeAdapter.{AllMedia, device_of}
use Rattle.device_model.specs.declared.port.PortModel.{PortModel}
use Rattle.device_model.specs.declared.port.TakenCommand.{TakenCommand}
use Rattle.device_model.specs.declared.hardware.Hardware.{Hardware}
use Rattle.device_model.specs.declared.cache.Cache.{Cache}
use Rattle.device_model.proofs.Finishing.{here_after, holds, taken_after}
use Rattle.device_model.proofs.SlotLemmas.{new_begun}
use Rattle.device_model.proofs.Trimming.{page_clears}
use Rattle.device_model.proofs.Stepping.{fetch_takes, fetch_says}

-- ---- pieces inside a memory

module _ (size : ℕ) (x : Prd) (xs : List Prd) where
  abbrev front : List ℕ
  front = piece_addresses x.address (x.bytes / 512)

  front_length : length front ≡ x.bytes / 512
  front_length = cut_length x.address (x.bytes / 512)

  in_front : (k : ℕ) → k < x.bytes / 512 → slice_index (pieces (x ∷ xs)) k ≡ x.address + 512 * k
  in_front k small = get_or_append_left front (pieces xs) 0 k (omega (arith, small, front_length)) ∙ cut_index x.address (x.bytes / 512) k small

  behind : (k : ℕ) → length front ≤ k → slice_index (pieces (x ∷ xs)) k ≡ slice_index (pieces xs) (k - length front)
  behind k past = get_or-append_right front (pieces xs) (length front) k 0 refl past

  -- the first one's pieces are inside, and so are the others'
  inside_first : PiecesInside size (pieces (x ∷ xs)) → IsInside size x
  inside_first all some =
      let n : ℕ = x.bytes / 512 in
      let sizes : length (pieces (x ∷ xs)) ≡ length front + length (pieces xs) = length-append front (pieces xs) in
      let last = all (n - 1) (omega (arith, sizes, front_length, some)) in
      let place = in_front (n - 1) (omega (arith, some)) in
      omega (arith, last, place, some)

  inside_rest : PiecesInside size (pieces (x ∷ xs)) → PiecesInside size (pieces xs)
  inside_rest all k small =
      let sizes : length (pieces (x ∷ xs)) ≡ length front + length (pieces xs) = length-append front (pieces xs) in
      let here = all (length front + k) (omega (arith, sizes, small)) in
      let place = behind (length front + k) (omega arith) in
      let same : length front + k - length front ≡ k = omega arith in
      let P : ℕ → Type 0 = λ i. slice_index (pieces (x ∷ xs)) (length front + k) ≡ slice_index (pieces xs) i in
      let there = subst P same place in
      omega (arith, here, there)

  inside_both : IsInside size x → PiecesInside size (pieces xs) → PiecesInside size (pieces (x ∷ xs))
  inside_both first rest k small =
      let sizes : length (pieces (x ∷ xs)) ≡ length front + length (pieces xs) = length-append front (pieces xs) in
      elim (cases_lt k (length front)) [
        | inl here ↦
            let place = in_front k (omega (arith, here, front_length)) in
            let fits = first (omega (arith, here, front_length)) in
            omega (arith, place, here, front_length, fits)
        | inr past ↦
            let there = rest (k - length front) (omega (arith, small, sizes, past)) in
            omega (arith, behind k past, there)
      ]

pub all_inside : (size : ℕ) (xs : List Prd) → All (IsInside size) xs → PiecesInside size (pieces xs)
all_inside size [] all k small = absurd (omega (arith, small))
all_inside size (x ∷ xs) all k small =
    inside_both size x xs (all 0 x (omega arith)) (all_inside size xs (λ i d lt. all (suc i) d (omega (arith, lt)))) k small

pub inside_all : (size : ℕ) (xs : List Prd) → PiecesInside size (pieces xs) → All (IsInside size) xs
inside_all size [] all k d small = absurd (omega (arith, small))
inside_all size (x ∷ xs) all zero d small = inside_first size x xs all
inside_all size (x ∷ xs) all (suc k) d small = inside_all size xs (inside_rest size x xs all) k d (omega (arith, small))

-- ---- what is left

pub left_covered : (r : TakenCommand) (size n : ℕ) (o : Option ℕ) → n ≡ length (pieces r.prds) → PiecesInside size (pieces r.prds) →
    SomeIff o (r.moved ≤ n) (n - r.moved) → IfSome o (λ left. HasMovesLeftInMemory (taken_of r) size left)
left_covered r size n None many all none = tt
left_covered r size n (Some left) many all fits = record { moves_left_are = omega (arith, fits.0, fits.1, many); pieces_are_inside = all }

pub left_is : (moved n left : ℕ) (o : Option ℕ) → moved + left ≡ n → SomeIff o (moved ≤ n) (n - moved) → o ≡ Some left
left_is moved n left None is none = absurd (none (omega (arith, is)))
left_is moved n left (Some x) is some = let same : x ≡ left = omega (arith, is, some.0, some.1) in ap Some same

-- ---- what is ready: a command that may be taken, or one that is

-- no command may be taken in this slot
abbrev pub MayTakeNone : PortModel → ℕ → Type 0
MayTakeNone p slot = (m : Media) (operation : Operation) → MayTakeIfDecoded (port_of p m) slot operation → ⊥

-- this command may be taken beside those that are
abbrev pub IsBeside : PortModel → TakenCommand → Type 0
IsBeside p r = AdmitsByHaltAndTaken p r.operation

pub may_be_taken : (p : PortModel) (slot : ℕ) (r : TakenCommand) → IsFetchableIfHaltAdmits p slot → IsBeside p r → (m : Media) →
    MayTakeIfDecoded (port_of p m) slot r.operation
may_be_taken p slot r may beside m =
    let w = may m r.operation beside.0 in record { fetchable = w.0; working = w.1; is_alone_or_all_are_queued = beside.1 m }

module _ (h : Hardware) (o : AllMedia) (p port slot left clears : ℕ) (e : p ≡ port) (ready : MayFinish (device_of h o) port slot left clears) where
  abbrev state : PortModel
  state = slice_index_or h.ports p reset_port_without_disk

  pub ready_fetch : IsFetchableIfHaltAdmits state slot →
      Can (Fetch port slot ready.fetched_command.meaning ready.fetched_command.places) (device_of h o) × (ready.fetched_command ≡ newly_fetched ready.fetched_command.meaning ready.fetched_command.places)
  ready_fetch may = by ready.is_begun_or_fetchable
    where
      by : WorksOn ((device_of h o).port port) slot ready.fetched_command ready.fetched_command.meaning.operation
          ⊎ (Can (Fetch port slot ready.fetched_command.meaning ready.fetched_command.places) (device_of h o) × (ready.fetched_command ≡ newly_fetched ready.fetched_command.meaning ready.fetched_command.places)) →
          Can (Fetch port slot ready.fetched_command.meaning ready.fetched_command.places) (device_of h o) × (ready.fetched_command ≡ newly_fetched ready.fetched_command.meaning ready.fetched_command.places)
      by (inl works) = some-none (ap (λ (q : ℕ). ((device_of h o).port q).taken slot) e ∙ works.taken) (may (o.media p) ready.fetched_command.meaning.operation (ap (λ (q : ℕ). admits ((device_of h o).port q).halt ready.fetched_command.meaning.operation) e ∙ works.working.admitted)).0.free
      by (inr begins) = begins

  pub ready_said : IsFetchableIfHaltAdmits state slot → DecodesTo (bytes_of h.memory.items) state.addresses.clb slot ready.fetched_command.meaning ready.fetched_command.places
  ready_said may = fetch_says h o p port slot ready.fetched_command.meaning ready.fetched_command.places e (ready_fetch may).0

  pub ready_held : MayTakeNone state slot → (r : TakenCommand) × WorksOnIn state slot r × (ready.fetched_command ≡ taken_of r)
  ready_held never = by ready.is_begun_or_fetchable
    where
      by : WorksOn ((device_of h o).port port) slot ready.fetched_command ready.fetched_command.meaning.operation
          ⊎ (Can (Fetch port slot ready.fetched_command.meaning ready.fetched_command.places) (device_of h o) × (ready.fetched_command ≡ newly_fetched ready.fetched_command.meaning ready.fetched_command.places)) →
          (r : TakenCommand) × WorksOnIn state slot r × (ready.fetched_command ≡ taken_of r)
      by (inl works) =
          let P : ℕ → Type 0 = λ q. (r : TakenCommand) × WorksOnIn (slice_index_or h.ports q reset_port_without_disk) slot r × (ready.fetched_command ≡ taken_of r) in
          subst P (sym e) (holds h o port slot ready.fetched_command works)
      by (inr begins) = absurd (never (o.media p) ready.fetched_command.meaning.operation (fetch_takes h o p port slot ready.fetched_command.meaning ready.fetched_command.places e begins.0))

module _ (h : Hardware) (p port slot : ℕ) (r : TakenCommand) (e : p ≡ port) where
  -- a command that may be taken is ready
  pub ready_to_take : (left clears : ℕ) → HasMovesAndTrimRunsLeft r h.memory.items left clears → IsNewlyTaken r →
      IsFetchableIfHaltAdmits (slice_index_or h.ports p reset_port_without_disk) slot → IsBeside (slice_index_or h.ports p reset_port_without_disk) r →
      DecodesTo (bytes_of h.memory.items) (slice_index_or h.ports p reset_port_without_disk).addresses.clb slot (taken_of r).meaning (taken_of r).places →
      (o : AllMedia) → MayFinish (device_of h o) port slot left clears
  ready_to_take left clears rest new may beside says o =
      let P : ℕ → Type 0 = λ q. MayFinish (device_of h o) q slot left clears in
      let m = may (o.media p) r.operation beside.0 in
      subst P e
      (record {
        fetched_command = taken_of r;
        has_moves_left = rest.0;
        has_trim_runs_left = rest.1;
        is_begun_or_fetchable = inr (record { fetchable = m.0; working = m.1; is_alone_or_all_are_queued = beside.1 (o.media p); says = says }, new_begun r new);
      })

  -- and so is one that is taken
  pub ready_to_go : (left clears : ℕ) → HasMovesAndTrimRunsLeft r h.memory.items left clears → WorksOnIn (slice_index_or h.ports p reset_port_without_disk) slot r →
      (o : AllMedia) → MayFinish (device_of h o) port slot left clears
  ready_to_go left clears rest here o =
      let P : ℕ → Type 0 = λ q. MayFinish (device_of h o) q slot left clears in
      subst P e (record { fetched_command = taken_of r; has_moves_left = rest.0; has_trim_runs_left = rest.1; is_begun_or_fetchable = inl (here.works (o.media p)) })

  -- a command that is ready, as far as these are its moves and clears
  rest_back : (left clears : ℕ) (o : AllMedia) (ready : MayFinish (device_of h o) port slot left clears) → ready.fetched_command ≡ taken_of r →
      HasMovesAndTrimRunsLeft r h.memory.items left clears
  rest_back left clears o ready same =
      let Q : FetchedCommand → Type 0 = λ t. HasMovesLeftInMemory t (length h.memory.items) left in
      let R : FetchedCommand → Type 0 = λ t. HasClearsLeft t.meaning.operation (bytes_of h.memory.items) t clears in
      (subst Q same ready.has_moves_left, subst R same ready.has_trim_runs_left)

  -- where a command may be taken, one that is ready is the one that its slot's bytes say
  pub ready_is_one : IsFetchableIfHaltAdmits (slice_index_or h.ports p reset_port_without_disk) slot → IsNewlyTaken r →
      DecodesTo (bytes_of h.memory.items) (slice_index_or h.ports p reset_port_without_disk).addresses.clb slot (taken_of r).meaning (taken_of r).places →
      (o : AllMedia) (left clears : ℕ) (ready : MayFinish (device_of h o) port slot left clears) → ready.fetched_command ≡ taken_of r
  ready_is_one may new says o left clears ready =
      let t : FetchedCommand = ready.fetched_command in
      let memory = bytes_of h.memory.items in
      let list = (slice_index_or h.ports p reset_port_without_disk).addresses.clb in
      let there = ready_said h o p port slot left clears e ready may in
      let meaning = says_meaning memory list slot t.meaning (taken_of r).meaning t.places (taken_of r).places there says in
      let places = says_places memory list slot t.meaning (taken_of r).meaning t.places (taken_of r).places there says in
      (ready_fetch h o p port slot left clears e ready may).1 ∙ ((λ i. newly_fetched (meaning i) (places i)) ∙ sym (new_begun r new))

  pub ready_is_said : IsFetchableIfHaltAdmits (slice_index_or h.ports p reset_port_without_disk) slot → IsNewlyTaken r →
      DecodesTo (bytes_of h.memory.items) (slice_index_or h.ports p reset_port_without_disk).addresses.clb slot (taken_of r).meaning (taken_of r).places →
      (o : AllMedia) (left clears : ℕ) → MayFinish (device_of h o) port slot left clears → HasMovesAndTrimRunsLeft r h.memory.items left clears
  ready_is_said may new says o left clears ready =
      rest_back left clears o ready (ready_is_one may new says o left clears ready)

  -- one that may not be taken beside those that are isn't ready
  pub ready_beside : IsFetchableIfHaltAdmits (slice_index_or h.ports p reset_port_without_disk) slot → IsNewlyTaken r →
      DecodesTo (bytes_of h.memory.items) (slice_index_or h.ports p reset_port_without_disk).addresses.clb slot (taken_of r).meaning (taken_of r).places →
      (o : AllMedia) (left clears : ℕ) → MayFinish (device_of h o) port slot left clears →
      (admits (halt_of (slice_index_or h.ports p reset_port_without_disk).halting) r.operation ≡ true)
      × IsAloneOrAllAreQueued (port_of (slice_index_or h.ports p reset_port_without_disk) (o.media p)) r.operation
  ready_beside may new says o left clears ready =
      let same = ready_is_one may new says o left clears ready in
      let P : ℕ → Type 0 = λ q. (admits ((device_of h o).port q).halt ready.fetched_command.meaning.operation ≡ true) × IsAloneOrAllAreQueued ((device_of h o).port q) ready.fetched_command.meaning.operation in
      let can = (ready_fetch h o p port slot left clears e ready may).0 in
      let both = subst P (sym e) (can.working.admitted, can.is_alone_or_all_are_queued) in
      subst (λ (t : FetchedCommand). (admits (halt_of (slice_index_or h.ports p reset_port_without_disk).halting) t.meaning.operation ≡ true)
      × IsAloneOrAllAreQueued (port_of (slice_index_or h.ports p reset_port_without_disk) (o.media p)) t.meaning.operation) same both

  -- where it is taken, the one that its slot holds
  pub ready_is_held : WorksOnIn (slice_index_or h.ports p reset_port_without_disk) slot r → MayTakeNone (slice_index_or h.ports p reset_port_without_disk) slot →
      (o : AllMedia) (left clears : ℕ) → MayFinish (device_of h o) port slot left clears → HasMovesAndTrimRunsLeft r h.memory.items left clears
  ready_is_held here never o left clears ready =
      let w = ready_held h o p port slot left clears e ready never in
      let same : r ≡ w.0 = some_one (sym here.is_taken ∙ w.1.is_taken) in
      rest_back left clears o ready (w.2 ∙ ap taken_of (sym same))

-- what a command is going to change is what is left of the one that is ready
pub ahead_is : (h : Hardware) (o : AllMedia) (cache : Cache) (port slot left changes n m : ℕ) (r : TakenCommand) (may : MayFinish (device_of h o) port slot n m) → may.fetched_command ≡ taken_of r →
    left ≡ n → changes ≡ sectors_left_to_change r.operation (bytes_of h.memory.items) (taken_of r) left →
    HasRoomForOldSectors cache (sectors_left_to_change may.fetched_command.meaning.operation (bytes_of h.memory.items) may.fetched_command n) → HasRoomForOldSectors cache changes
ahead_is h o cache port slot left changes n m r may same number is =
    let memory = bytes_of h.memory.items in
    let here : sectors_left_to_change may.fetched_command.meaning.operation memory may.fetched_command n ≡ changes = (λ i. sectors_left_to_change (same i).meaning.operation memory (same i) (sym number i)) ∙ sym is in
    subst (HasRoomForOldSectors cache) here

-- and of the one that is taken
pub ahead_of : (cache : Cache) (memory : ℕ → ℕ) (left changes : ℕ) (r : TakenCommand) (t : FetchedCommand) → taken_of r ≡ t →
    changes ≡ sectors_left_to_change r.operation memory (taken_of r) left → HasRoomForOldSectors cache changes → HasRoomForOldSectors cache (sectors_left_to_change t.meaning.operation memory t left)
ahead_of cache memory left changes r t same is =
    let there : changes ≡ sectors_left_to_change t.meaning.operation memory t left = is ∙ (λ i. sectors_left_to_change (same i).meaning.operation memory (same i) left) in
    subst (HasRoomForOldSectors cache) there

-- the one that was taken just now
pub fetched_is : (port slot : ℕ) (old new : Device) (r : TakenCommand) (f : DoesFetch port slot old new) → IsNewlyTaken r →
    DecodesTo old.memory (old.port port).bases.clb slot (taken_of r).meaning (taken_of r).places → (t : FetchedCommand) → (new.port port).taken slot ≡ Some t → taken_of r ≡ t
fetched_is port slot old new r f fresh says t taken =
    let p : DevicePort = old.port port in
    let state : DevicePort = port_after_fetch p slot f.meaning f.places in
    let meaning : f.meaning ≡ (taken_of r).meaning = says_meaning old.memory p.bases.clb slot f.meaning (taken_of r).meaning f.places (taken_of r).places f.can.says says in
    let places : f.places ≡ (taken_of r).places = says_places old.memory p.bases.clb slot f.meaning (taken_of r).meaning f.places (taken_of r).places f.can.says says in
    let there : new.port port ≡ state = ap (λ (d : Device). d.port port) f.effect ∙ here_after old port state in
    let held : (new.port port).taken slot ≡ Some (newly_fetched (taken_of r).meaning (taken_of r).places) =
    ap (λ (x : DevicePort). x.taken slot) there ∙ (taken_after p slot (Some (newly_fetched f.meaning f.places)) ∙ (λ i. Some (newly_fetched (meaning i) (places i)))) in
    new_begun r fresh ∙ some_one (sym held ∙ taken)

-- ---- commands that send a page

module _ (h : Hardware) (port slot size : ℕ) (sized : size ≡ vec_len h.memory) where
  abbrev here : PortModel
  here = slice_index_or h.ports port reset_port_without_disk

  memory_size : size ≡ length h.memory.items
  memory_size = let ok = h.memory.ok.0 in omega (arith, sized, ok)

  covers : (r : TakenCommand) (left : ℕ) → HasMovesLeftInMemory (taken_of r) size left → HasMovesLeftInMemory (taken_of r) (length h.memory.items) left
  covers r left covered = let P : ℕ → Type 0 = λ n. HasMovesLeftInMemory (taken_of r) n left in subst P memory_size covered

  covers_back : (r : TakenCommand) (left : ℕ) → HasMovesLeftInMemory (taken_of r) (length h.memory.items) left → HasMovesLeftInMemory (taken_of r) size left
  covers_back r left covered = let P : ℕ → Type 0 = λ n. HasMovesLeftInMemory (taken_of r) n left in subst P (sym memory_size) covered

  -- it clears nothing
  clears : (r : TakenCommand) → sends_page r.operation ≡ true → HasClearsLeft r.operation (bytes_of h.memory.items) (taken_of r) 0
  clears r kind = page_clears r.operation (bytes_of h.memory.items) (taken_of r) kind

  -- a command that can be done to its end
  abbrev pub Ends : TakenCommand → Type 0
  Ends r = (left : ℕ) × HasMovesLeftInMemory (taken_of r) size left × PiecesInside (2 ^ 32) (pieces r.prds)

  -- one that may be taken
  pub page_said : (r : TakenCommand) → IsNewlyTaken r → DecodesTo (bytes_of h.memory.items) here.addresses.clb slot (taken_of r).meaning (taken_of r).places →
      sends_page r.operation ≡ true → IsFetchableIfHaltAdmits here slot → IsBeside here r → Ends r → (o : AllMedia) → HasFinishablePageCommand (device_of h o) port slot
  page_said r new says kind may beside ends o =
      let m = may (o.media port) r.operation beside.0 in
      record {
        moves_left = ends.0;
        may_finish = record {
          fetched_command = taken_of r;
          has_moves_left = covers r ends.0 ends.1;
          has_trim_runs_left = clears r kind;
          is_begun_or_fetchable = inr (record { fetchable = m.0; working = m.1; is_alone_or_all_are_queued = beside.1 (o.media port); says = says }, new_begun r new);
        };
        sends_page = kind;
        addresses_are_low = ends.2;
      }

  -- no other one may be
  pub page_unsaid : ((m : Meaning) (places : List ℕ) → sends_page m.operation ≡ true → DecodesTo (bytes_of h.memory.items) here.addresses.clb slot m places → ⊥) →
      IsFetchableIfHaltAdmits here slot → (o : AllMedia) → HasFinishablePageCommand (device_of h o) port slot → ⊥
  page_unsaid none may o has =
      none has.may_finish.fetched_command.meaning has.may_finish.fetched_command.places has.sends_page (ready_said h o port port slot has.moves_left 0 refl has.may_finish may)

  -- and where one may be taken, it is the one that is ready
  pub page_endless : (r : TakenCommand) → IsNewlyTaken r → DecodesTo (bytes_of h.memory.items) here.addresses.clb slot (taken_of r).meaning (taken_of r).places →
      IsFetchableIfHaltAdmits here slot → ((left : ℕ) → HasMovesLeftInMemory (taken_of r) size left → PiecesInside (2 ^ 32) (pieces r.prds) → ⊥) → (o : AllMedia) →
      HasFinishablePageCommand (device_of h o) port slot → ⊥
  page_endless r new says may never o has =
      let same = ready_is_one h port port slot r refl may new says o has.moves_left 0 has.may_finish in
      never has.moves_left (covers_back r has.moves_left (ready_is_said h port port slot r refl may new says o has.moves_left 0 has.may_finish).0)
      (subst (λ (t : FetchedCommand). PiecesInside (2 ^ 32) t.places) same has.addresses_are_low)

  -- one that is taken
  pub page_held : (r : TakenCommand) → WorksOnIn here slot r → sends_page r.operation ≡ true → Ends r → (o : AllMedia) → HasFinishablePageCommand (device_of h o) port slot
  page_held r held kind ends o = record {
    moves_left = ends.0;
    may_finish = record {
      fetched_command = taken_of r;
      has_moves_left = covers r ends.0 ends.1;
      has_trim_runs_left = clears r kind;
      is_begun_or_fetchable = inl (held.works (o.media port));
    };
    sends_page = kind;
    addresses_are_low = ends.2;
  }

  pub page_unheld : ((r : TakenCommand) → WorksOnIn here slot r → sends_page r.operation ≡ true → Ends r → ⊥) → MayTakeNone here slot → (o : AllMedia) →
      HasFinishablePageCommand (device_of h o) port slot → ⊥
  page_unheld none never o has =
      let w = ready_held h o port port slot has.moves_left 0 refl has.may_finish never in
      none w.0 w.1 (sym (ap (λ (t : FetchedCommand). sends_page t.meaning.operation) w.2) ∙ has.sends_page)
      (has.moves_left, covers_back w.0 has.moves_left (rest_back h port port slot w.0 refl has.moves_left 0 o has.may_finish w.2).0, subst (λ (t : FetchedCommand). PiecesInside (2 ^ 32) t.places) w.2 has.addresses_are_low)

-- what a look at a slot finds, by whether it can be done to its end
pub finds : (d : Device) (port slot : ℕ) (ends : Bool) → (ends ≡ true → HasFinishablePageCommand d port slot) → (ends ≡ false → MayTakePageCommand d port slot × (HasFinishablePageCommand d port slot → ⊥)) →
    FindsPageCommandAndWhetherItCanEnd d port slot (Some ends)
finds d port slot true has may = has refl
finds d port slot false has may = may refl

module _ (h : Hardware) (port slot : ℕ) where
  abbrev first : PortModel
  first = slice_index_or h.ports port reset_port_without_disk

  -- one that its slot's bytes say may be taken
  pub may_page : (r : TakenCommand) → DecodesTo (bytes_of h.memory.items) first.addresses.clb slot (taken_of r).meaning (taken_of r).places →
      sends_page r.operation ≡ true → IsFetchableIfHaltAdmits first slot → IsBeside first r → (o : AllMedia) → MayTakePageCommand (device_of h o) port slot
  may_page r says kind may beside o =
      let m = may (o.media port) r.operation beside.0 in
      record {
        meaning = (taken_of r).meaning;
        places = (taken_of r).places;
        sends_page = kind;
        can = record { fetchable = m.0; working = m.1; is_alone_or_all_are_queued = beside.1 (o.media port); says = says };
      }

  -- and so may one that can be done to its end, where one may be
  pub ready_may : IsFetchableIfHaltAdmits first slot → (o : AllMedia) → HasFinishablePageCommand (device_of h o) port slot → MayTakePageCommand (device_of h o) port slot
  ready_may may o has = record {
    meaning = has.may_finish.fetched_command.meaning;
    places = has.may_finish.fetched_command.places;
    sends_page = has.sends_page;
    can = (ready_fetch h o port port slot has.moves_left 0 refl has.may_finish may).0;
  }

  -- none may be beside others that are taken
  pub page_crowded : (r : TakenCommand) → DecodesTo (bytes_of h.memory.items) first.addresses.clb slot (taken_of r).meaning (taken_of r).places →
      ((m : Media) → admits (halt_of first.halting) r.operation ≡ true → IsAloneOrAllAreQueued (port_of first m) r.operation → ⊥) → (o : AllMedia) →
      MayTakePageCommand (device_of h o) port slot → ⊥
  page_crowded r says crowded o may =
      let memory = bytes_of h.memory.items in
      let there = fetch_says h o port port slot may.meaning may.places refl may.can in
      let meaning = says_meaning memory first.addresses.clb slot may.meaning (taken_of r).meaning may.places (taken_of r).places there says in
      let same : may.meaning.operation ≡ r.operation = ap (λ (x : Meaning). x.operation) meaning in
      crowded (o.media port) (subst (λ (x : Operation). admits (halt_of first.halting) x ≡ true) same may.can.working.admitted)
      (subst (λ (x : Operation). IsAloneOrAllAreQueued (port_of first (o.media port)) x) same may.can.is_alone_or_all_are_queued)

  -- none is said
  pub page_unmeant : ((m : Meaning) (places : List ℕ) → sends_page m.operation ≡ true → DecodesTo (bytes_of h.memory.items) first.addresses.clb slot m places → ⊥) →
      (o : AllMedia) → MayTakePageCommand (device_of h o) port slot → ⊥
  page_unmeant none o may = none may.meaning may.places may.sends_page (fetch_says h o port port slot may.meaning may.places refl may.can)

  -- none may be taken
  pub page_barred : MayTakeNone first slot → (o : AllMedia) → MayTakePageCommand (device_of h o) port slot → ⊥
  page_barred never o may =
      never (o.media port) may.meaning.operation (fetch_takes h o port port slot may.meaning may.places refl may.can)

-- nothing is issued or taken there
pub page_unused : (h : Hardware) (port slot : ℕ) → word_bits (slice_index_or h.ports port reset_port_without_disk).ci slot ≡ false → taken_in (slice_index_or h.ports port reset_port_without_disk).taken slot ≡ None →
    (o : AllMedia) → FindsPageCommandAndWhetherItCanEnd (device_of h o) port slot None
page_unused h port slot unissued untaken o =
    let never : MayTakeNone (slice_index_or h.ports port reset_port_without_disk) slot = λ m operation may. true-false may.fetchable.issued unissued in
    (page_barred h port slot never o, page_unheld h port slot _ refl (λ r held kind ends. some-none held.is_taken untaken) never o)
