-- The head of a save that begins is allowed, and its record fits the catalogue.
use Rattle.std.proofs.Common.{◌≡◌, ◌⊎◌, ℕ, ◌<◌, ◌≤◌, false, List, length, refl, sym, ap, ◌∙◌, subst, arith, inl, inr}
use Rattle.std.specs.List.{AllByRecursion}
use Rattle.std.specs.Prelude.{Option, Some, None, IsSome}
use Rattle.room_base.specs.Numbers.{max_moment}
use Rattle.room_base.specs.Text.{IsName}
use Rattle.room_base.specs.declared.numbers.Moment.{Moment}
use Rattle.room_base.specs.declared.numbers.Ssid.{Ssid}
use Rattle.room_rules.specs.declared.policy.Policy.{Policy}
use Rattle.room_rules.specs.declared.pool.Pool.{Pool}
use Rattle.room_rules.specs.Pools.{IsPoolOf, Save}
use Rattle.save_stream.specs.declared.head.SetHead.{SetHead}
use Rattle.save_stream.specs.Spelling.{head_text}
use Rattle.save_stream.proofs.Lengths.{length-head_text}
use Rattle.save_session.proofs.Views.{one_at}
use Rattle.sched_levels.specs.Bases.{IsBaseFor}
use Rattle.sched_levels.proofs.Bases.{no_base}
use Rattle.media_db.specs.declared.records.Record.{Record}
use Rattle.media_db.specs.Rows.{find_record}
use Rattle.catalog_change.specs.Resources.{IsPool, IsShortName}
use Rattle.catalog_change.specs.declared.resource.Client.{Client}
use Rattle.resource_lists.specs.Lists.{default_pool}
use Rattle.room_catalog.specs.Invariant.{IsHeld}
use Rattle.room_effects.specs.View.{RoomView}
use Rattle.room_effects.specs.Entering.{is_at_ceiling}
use Rattle.room_between.specs.Middle.{HasRecord}
use Rattle.save_begin.specs.declared.asked.Asked.{Asked}
use Rattle.save_begin.specs.Asking.{IsGroupAsked, client_of, policy_of}
use Rattle.save_begin.specs.Fitting.{HasShortNames, IsNewHead, MayBegin}
use Rattle.save_begin.specs.Heading.{IsHeadFor, IsPoolFor, browse_until, group_or_none, head_with, next_ssid, retain_until, save_of, until}
use Rattle.save_begin.proofs.Names.{none_is}
use Rattle.save_begin.proofs.Numbers.{are_records, below_is, is_below, none_open}

-- ---- times

until_bound : (m : Moment) (policy : Option Policy) → m.0 ≤ max_moment → until m policy ≤ max_moment
until_bound m None moment = moment
until_bound m (Some policy) moment = omega arith

browse_bound : (m : Moment) (room : RoomView) (client : Option Client) → m.0 ≤ max_moment → browse_until m room client ≤ max_moment
browse_bound m room None moment = moment
browse_bound m room (Some client) moment = until_bound m (policy_of client.browse room) moment

retain_bound : (m : Moment) (room : RoomView) (client : Option Client) → m.0 ≤ max_moment
    → (browse_until m room client ≤ retain_until m room client) × (retain_until m room client ≤ max_moment)
retain_bound m room None moment = (omega arith, moment)
retain_bound m room (Some client) moment =
    let browse = browse_bound m room (Some client) moment in
    let retain = until_bound m (policy_of client.retention room) moment in
    (omega arith, omega (arith, browse, retain))

-- ---- names

group_is : (group : Option (List ℕ)) → IsGroupAsked group → (length (group_or_none group) ≤ 64) × IsName (group_or_none group)
group_is None is = (omega arith, none_is)
group_is (Some name) is = (is.0.1, is.1)

-- a save goes to a pool on record
pub pool_within : (pools : List Pool) (save : Save) (at : ℕ) → IsPoolOf pools save at → at < length pools
pool_within pools save at (inl first) = first.0
pool_within pools save at (inr default) = default.1

pool_is : (pools : List Pool) (save : Save) (name : List ℕ) → AllByRecursion IsPool pools → IsPoolFor save pools name → IsShortName name
pool_is pools save name each is =
    let one = one_at IsPool pools is.place default_pool (pool_within pools save is.place is.is) each in
    subst IsShortName (is.named default_pool) one.name

-- ---- the head, field by field

pub head_is : (m : Moment) (asked : Asked) (level : ℕ) (base : Ssid) (pool : List ℕ) (room : RoomView) (ssid : Ssid) (browse retain : Moment) (group : List ℕ)
    → ssid.0 ≡ room.catalogue.next_ssid → browse.0 ≡ browse_until m room (client_of asked.client room) → retain.0 ≡ retain_until m room (client_of asked.client room)
    → group ≡ group_or_none asked.group
    → ◌≡◌ {A = SetHead} (record {
      ssid = ssid;
      base = base;
      level = level;
      saved = m;
      browse = browse;
      retain = retain;
      client = asked.client;
      set = asked.set;
      group = group;
      pool = pool;
    }) (head_with m asked level base pool room)
head_is m asked level base pool room ssid browse retain group ssid_is browse_is retain_is group_is =
    let H : ℕ → ℕ → ℕ → List ℕ → SetHead = λ s b r g. record {
      ssid = record { 0 = s };
      base = base;
      level = level;
      saved = m;
      browse = record { 0 = b };
      retain = record { 0 = r };
      client = asked.client;
      set = asked.set;
      group = g;
      pool = pool;
    } in
    ap (λ (s : ℕ). H s browse.0 retain.0 group) ssid_is
    ∙ ap (λ (b : ℕ). H room.catalogue.next_ssid b retain.0 group) browse_is
    ∙ ap (λ (r : ℕ). H room.catalogue.next_ssid (browse_until m room (client_of asked.client room)) r group) retain_is
    ∙ ap (λ (g : List ℕ). H room.catalogue.next_ssid (browse_until m room (client_of asked.client room)) (retain_until m room (client_of asked.client room)) g) group_is

-- ---- the base

module _ (room : RoomView) (asked : Asked) (wanted level : ℕ) (base : Ssid) (is : IsBaseFor room.catalogue.records asked.client asked.set wanted level base) where
  level_bound : wanted ≤ 10 → level ≤ 10
  level_bound bound = elim is [
    | inl stands ↦ omega (arith, stands.0, bound)
    | inr alone ↦ omega (arith, alone.0)
  ]

  base_below : IsHeld room.catalogue → is_at_ceiling room.catalogue ≡ false → base.0 < room.catalogue.next_ssid
  base_below held below = elim is [
    | inl stands ↦ is_below room.catalogue held below base.0 stands.1.0.row stands.1.0.found
    | inr alone ↦ omega (arith, alone.1, held.catalogue.next_ssid.0)
  ]

  base_found : (base.0 ≡ 0) ⊎ IsSome (find_record base.0 room.catalogue.records)
  base_found = elim is [
    | inl stands ↦ inr (let F : Option Record → Type 0 = λ found. IsSome found in subst F (sym stands.1.0.found) refl)
    | inr alone ↦ inl alone.1
  ]

-- ---- the head

module _ (m : Moment) (asked : Asked) (wanted : ℕ) (room : RoomView) (head : SetHead) (is : IsHeadFor m asked wanted room head) (may : MayBegin asked room) (held : IsHeld room.catalogue) where
  made : SetHead
  made = head_with m asked head.level head.base head.pool room

  pub short_names : HasShortNames head
  short_names =
      let pool = pool_is room.catalogue.resources.pools (save_of asked head.level) head.pool held.catalogue.resources.pools.each is.pool in
      let group = group_is asked.group may.group in
      subst HasShortNames (sym is.is) (record {
        client = omega (arith, may.client.0.1);
        set = may.set.0.1;
        group = omega (arith, group.0);
        pool = omega (arith, pool.0.1);
      })

  pub text_bound : (1 ≤ length (head_text head)) × (length (head_text head) ≤ 257024)
  text_bound =
      let size = length-head_text head in
      (omega (arith, size), omega (arith, size, short_names.client, short_names.set, short_names.group, short_names.pool))

  pub is_new : m.0 ≤ max_moment → wanted ≤ 10 → is_at_ceiling room.catalogue ≡ false → AllByRecursion (HasRecord room.catalogue.records) room.sessions → IsNewHead head room
  is_new moment bound below has =
      let left = below_is room.catalogue below in
      let lower = base_below room asked wanted head.level head.base is.base held below in
      subst (λ (one : SetHead). IsNewHead one room) (sym is.is) (record {
        allowed = record {
          ssid = (held.catalogue.next_ssid.0, omega (arith, left.1));
          base = lower;
          level = level_bound room asked wanted head.level head.base is.base bound;
          full = no_base room.catalogue.records asked.client asked.set wanted head.level head.base (are_records room.catalogue held) is.base;
          saved = moment;
          browse = browse_bound m room (client_of asked.client room) moment;
          retain = retain_bound m room (client_of asked.client room) moment;
          client = may.client;
          set = may.set;
          group = group_is asked.group may.group;
          pool = pool_is room.catalogue.resources.pools (save_of asked head.level) head.pool held.catalogue.resources.pools.each is.pool;
        };
        fits = (omega arith, left.1, base_found room asked wanted head.level head.base is.base);
        new = none_open room.catalogue held below room.sessions has;
      })
