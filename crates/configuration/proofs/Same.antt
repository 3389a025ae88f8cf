-- Two configurations with the values of one document meet the same rules.
use Rattle.ata_types.specs.declared.limits.TheConstants.{CLIENTS, MOST_GRANTS, SLOTS}
use Rattle.ata_types.specs.declared.memory.TheConstants.{FEWEST_FRAMES, MOST_FRAMES}
use Rattle.std.proofs.Common.{◌≡◌, ◌∙◌, ◌≤◌, ℕ, List, Option, Some, None, String, Global, IfSome, All, AllPairs, codes, option_map, string_bytes, ap, refl, subst, sym}
use Rattle.std.specs.List.{AllZip}
use Rattle.toml.specs.Data.{Members}
use Rattle.configuration.specs.declared.ClientConfig.{ClientConfig}
use Rattle.configuration.specs.declared.Config.{Config}
use Rattle.configuration.specs.declared.GrantConfig.{GrantConfig}
use Rattle.configuration.specs.declared.FaultKind.{FaultKind}
use Rattle.configuration.specs.declared.FaultKind.TheVariants.{NotToml, WrongKeys, WrongTypes, OutOfRange, Duplicate, SharedFrames, UnknownClient, UnknownPort}
use Rattle.configuration.specs.declared.PortConfig.{PortConfig}
use Rattle.configuration.specs.Ranges.{IsClientInRange, IsGrantInRange, IsPortInRange, IsRightsText, IsSerialText}
use Rattle.configuration.specs.Rules.{FramesApart, DifferInId, DifferInGrant, DifferInNumber, HasClient, ConfiguresPort, IsTrimWord, LacksFault}
use Rattle.configuration.specs.TomlTables.{HasNumber, HasText, HasTextOrIsAbsent, Spells, SpellsClient, SpellsGrant, SpellsPort, tables_at}
use Rattle.configuration.proofs.Zips.{All-alike, AllPairs-alike, Any-alike, same-length, same-list, zips-alike}

one-number : (m : Members) (name : List ℕ) (n k : ℕ) → HasNumber m name n → HasNumber m name k → n ≡ k
one-number m name n k a b = let both = sym a ∙ b in cc

one-text : (m : Members) (name s t : List ℕ) → HasText m name s → HasText m name t → s ≡ t
one-text m name s t a b = let both = sym a ∙ b in cc

one-serial : (m : Members) (name : List ℕ) (s t : Option (List ℕ)) → HasTextOrIsAbsent m name s → HasTextOrIsAbsent m name t → s ≡ t
one-serial m name None None a b = refl
one-serial m name None (Some t) a b = let both = sym a ∙ b in cc
one-serial m name (Some s) None a b = let both = sym a ∙ b in cc
one-serial m name (Some s) (Some t) a b = ap Some (one-text m name s t a b)

pub record SamePort (p q : PortConfig) : Type 0 where
  pub number : p.number ≡ q.number
  pub serial : option_map string_bytes p.serial ≡ option_map string_bytes q.serial

pub record SameGrant (g h : GrantConfig) : Type 0 where
  pub client : g.client ≡ h.client
  pub number : g.number ≡ h.number
  pub port : g.port ≡ h.port
  pub first : g.first ≡ h.first
  pub count : g.count ≡ h.count
  pub rights : string_bytes g.rights ≡ string_bytes h.rights

pub record Same (c d : Config) : Type 0 where
  pub frames : c.frames ≡ d.frames
  pub slots : c.slots ≡ d.slots
  pub depth : c.depth ≡ d.depth
  pub trim : string_bytes c.trim ≡ string_bytes d.trim
  pub ports : AllZip SamePort c.port.items d.port.items
  pub clients : c.client.items ≡ d.client.items
  pub grants : AllZip SameGrant c.grant.items d.grant.items

same-port : (m : Members) (p q : PortConfig) → SpellsPort m p → SpellsPort m q → SamePort p q
same-port m p q a b = record {
  number = one-number m (codes "number") p.number q.number a.number b.number;
  serial = one-serial m (codes "serial") (option_map string_bytes p.serial) (option_map string_bytes q.serial)
      a.serial b.serial;
}

client : ℕ → ℕ → ℕ → ClientConfig
client id first_frame frames = record { id = id; first_frame = first_frame; frames = frames }

same-client : (m : Members) (c d : ClientConfig) → SpellsClient m c → SpellsClient m d → c ≡ d
unfolding client
same-client m c d a b =
    let id = one-number m (codes "id") c.id d.id a.id b.id in
    let first = one-number m (codes "first_frame") c.first_frame d.first_frame a.first_frame b.first_frame in
    let frames = one-number m (codes "frames") c.frames d.frames a.frames b.frames in
    ap (λ n. client n c.first_frame c.frames) id ∙ ap (λ n. client d.id n c.frames) first
    ∙ ap (λ n. client d.id d.first_frame n) frames

same-grant : (m : Members) (g h : GrantConfig) → SpellsGrant m g → SpellsGrant m h → SameGrant g h
same-grant m g h a b = record {
  client = one-number m (codes "client") g.client h.client a.client b.client;
  number = one-number m (codes "number") g.number h.number a.number b.number;
  port = one-number m (codes "port") g.port h.port a.port b.port;
  first = one-number m (codes "first") g.first h.first a.first b.first;
  count = one-number m (codes "count") g.count h.count a.count b.count;
  rights = one-text m (codes "rights") (string_bytes g.rights) (string_bytes h.rights) a.rights b.rights;
}

-- a document has the values of one configuration
pub same-values : (m : Members) (c d : Config) → Spells m c → Spells m d → Same c d
same-values m c d a b = record {
  frames = one-number m (codes "frames") c.frames d.frames a.frames b.frames;
  slots = one-number m (codes "slots") c.slots d.slots a.slots b.slots;
  depth = one-number m (codes "depth") c.depth d.depth a.depth b.depth;
  trim = one-text m (codes "trim") (string_bytes c.trim) (string_bytes d.trim) a.trim b.trim;
  ports = zips-alike SpellsPort SamePort same-port (tables_at (codes "port") m) c.port.items d.port.items
      a.ports b.ports;
  clients = same-list c.client.items d.client.items
      (zips-alike SpellsClient (λ x y. x ≡ y) same-client (tables_at (codes "client") m) c.client.items d.client.items
      a.clients b.clients);
  grants = zips-alike SpellsGrant SameGrant same-grant (tables_at (codes "grant") m) c.grant.items d.grant.items
      a.grants b.grants;
}

serial-alike : (s t : Option (String Global)) → option_map string_bytes s ≡ option_map string_bytes t
    → IfSome s (λ x. IsSerialText (string_bytes x)) → IfSome t (λ x. IsSerialText (string_bytes x))
serial-alike s None is h = tt
serial-alike None (Some t) is h = let none : ⊥ = cc in absurd none
serial-alike (Some s) (Some t) is h = let same : string_bytes s ≡ string_bytes t = cc in subst IsSerialText same h

port-alike : (p q : PortConfig) → SamePort p q → IsPortInRange p → IsPortInRange q
port-alike p q same h = record {
  number = subst (λ n. n ≤ 3) same.number h.number;
  serial = serial-alike p.serial q.serial same.serial h.serial;
}

grant-alike : (g h : GrantConfig) → SameGrant g h → IsGrantInRange g → IsGrantInRange h
grant-alike g h same is = record {
  client_is_positive = subst (λ n. 1 ≤ n) same.client is.client_is_positive;
  client_is_a_clients = subst (λ n. n ≤ CLIENTS) same.client is.client_is_a_clients;
  number = subst (λ n. n ≤ 63) same.number is.number;
  port = subst (λ n. n ≤ 3) same.port is.port;
  has_a_sector = subst (λ n. 1 ≤ n) same.count is.has_a_sector;
  sectors_end_by_2_48 = rw (sym same.first, sym same.count) is.sectors_end_by_2_48;
  rights = subst IsRightsText same.rights is.rights;
}

-- the same values meet the same rules
pub meets-alike : (c d : Config) (kind : FaultKind) → Same c d → LacksFault c kind → LacksFault d kind
unfolding ConfiguresPort
meets-alike c d NotToml same h = tt
meets-alike c d WrongKeys same h = tt
meets-alike c d WrongTypes same h = tt
meets-alike c d OutOfRange same h = record {
  numbers = record {
    frames = subst (λ n. (FEWEST_FRAMES ≤ n) × (n ≤ MOST_FRAMES)) same.frames h.numbers.frames;
    slots = subst (λ n. (1 ≤ n) × (n ≤ SLOTS)) same.slots h.numbers.slots;
    depth = subst (λ n. (1 ≤ n) × (n ≤ SLOTS)) same.depth h.numbers.depth;
    at_most_64_grants = subst (λ n. n ≤ MOST_GRANTS) (same-length SameGrant c.grant.items d.grant.items same.grants)
        h.numbers.at_most_64_grants;
  };
  trim = subst IsTrimWord same.trim h.trim;
  parts = record {
    ports = All-alike SamePort IsPortInRange IsPortInRange port-alike c.port.items d.port.items same.ports h.parts.ports;
    clients = subst (λ n. All (IsClientInRange n) d.client.items) same.frames
        (subst (All (IsClientInRange c.frames)) same.clients h.parts.clients);
    grants = All-alike SameGrant IsGrantInRange IsGrantInRange grant-alike c.grant.items d.grant.items same.grants h.parts.grants;
  };
}
meets-alike c d Duplicate same h = record {
  ports = AllPairs-alike SamePort DifferInNumber (λ x y u v a b differ is. differ (a.number ∙ is ∙ sym b.number))
      c.port.items d.port.items same.ports h.ports;
  clients = subst (AllPairs DifferInId) same.clients h.clients;
  grants = AllPairs-alike SameGrant DifferInGrant
      (λ x y u v a b differ is too. differ (a.client ∙ is ∙ sym b.client) (a.number ∙ too ∙ sym b.number))
      c.grant.items d.grant.items same.grants h.grants;
}
meets-alike c d SharedFrames same h = subst (AllPairs FramesApart) same.clients h
meets-alike c d UnknownClient same h =
    All-alike SameGrant (λ g. HasClient c.client.items g.client) (λ g. HasClient d.client.items g.client)
    (λ x y r there. subst (HasClient d.client.items) r.client (subst (λ cs. HasClient cs x.client) same.clients there))
    c.grant.items d.grant.items same.grants h
meets-alike c d UnknownPort same h =
    All-alike SameGrant (λ g. ConfiguresPort c.port.items g.port) (λ g. ConfiguresPort d.port.items g.port)
    (λ x y r there. subst (ConfiguresPort d.port.items) r.port
    (Any-alike SamePort (λ p. p.number ≡ x.port) (λ p q s is. sym s.number ∙ is) c.port.items d.port.items
    same.ports there))
    c.grant.items d.grant.items same.grants h
