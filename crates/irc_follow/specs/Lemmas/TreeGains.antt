-- A side that knows a server more is sound as it was: each of its servers keeps of it what the
-- links say, and by one number with the neighbour that told it.
use Rattle.std.proofs.Common.{◌≡◌, ◌≢◌, ◌⊎◌, inl, inr, ℕ, ◌+◌, ◌≤◌, suc, Bool, true, false, cond}
use Rattle.std.proofs.Common.{not, ◌&&◌, ◌||◌, Option, Some, None, List, [], length, nat_eq, nat_le}
use Rattle.std.proofs.Common.{refl, sym, ◌∙◌, ap, subst, is_some, arith, if◌then◌else◌}
use Rattle.std.proofs.lemmas.Bool.{and_parts, leb-true}
use Rattle.std.proofs.lemmas.Bool.Decides.{Decides-eqb}
use Rattle.std.specs.List.{list_any}
use Rattle.std.specs.Option.{option_map}
use Rattle.std.specs.FinMap.{len}
use Rattle.std.proofs.lemmas.Option.{same_Some}
use Rattle.irc_names.specs.Names.{is_server}
use Rattle.irc_names.specs.TableLaws.{same_fold, same_fold-refl, one_fold, row-alter}
use Rattle.irc_relay.specs.Distances.{IsAmong}
use Rattle.irc_relay.specs.Links.{Name, same, toward, distance, AreJoined, AreLinked, IsNextHop}
use Rattle.irc_relay.specs.Lemmas.TellingNames.{Telling, alike, unlike, tell, same_unless}
use Rattle.irc_relay.specs.Lemmas.NextHops.{linked_back, next_hop}
use Rattle.irc_routes.specs.Adding.{added_fault}
use Rattle.irc_routes.specs.declared.server_row.ServerRow.{ServerRow}
use Rattle.irc_routes.specs.Known.{Known, has_token, is_full, is_itself, is_known, others, row_of}
use Rattle.irc_routes.specs.Known.{smallest_free, token_in, token_out, IsNumbered}
use Rattle.irc_routes.specs.declared.fault.RoutesFault.TheVariants as fault
use Rattle.irc_routes.specs.Info.{IsInfo}
use Rattle.irc_routes.specs.Limits.{max_servers}
use Rattle.irc_routes.specs.Lemmas.TableRows.{length-values, some_stands}
use Rattle.irc_routes.specs.Lemmas.SmallestFree.{smallest_is_low}
use Rattle.irc_routes.specs.Lemmas.RouteLaws.{added_gets_smallest, stays_numbered}
use Rattle.irc_follow.specs.Tree.{Tree, index_in, shape, shape_in, told_token, known_told, gained}
use Rattle.irc_follow.specs.Tree.{gained_at, IsSoundTree, AreServers, CanGain}
use Rattle.irc_follow.specs.Lemmas.PlacesOfNames.{one_place}
use Rattle.irc_follow.specs.Lemmas.FewRows.{two_more}
use Rattle.irc_follow.specs.Lemmas.ToldNumbers.{told_apart, known_number, new_number}
use Rattle.irc_follow.specs.Lemmas.ToldNumbers.{none_found}

module _ (names : List Name) (info : Name → List ℕ) (servers : AreServers names info)
    (few : length names ≤ max_servers) (tree : Tree)
    (sound : IsSoundTree names info tree) where
  pub here_among : (t : Name) → tree.here t ≡ true → IsAmong names t
  here_among t here = sound.known_among t (sound.here_known t here)

  -- a linked server is one of the names
  pub linked_among : (t u : Name) → AreLinked tree.forest t u → IsAmong names t
  linked_among t u linked = sound.ends t u linked

  -- ---- a server of this side, and one that is not known

  module _ (t name : Name) (here : tree.here t ≡ true) (unknown : tree.knows name ≡ false) where
    pub another : name ≢ t
    another is = cc (sym unknown ∙ ap tree.knows is ∙ sound.here_known t here)

    pub no_row : row_of (tree.routes t) name ≡ None
    no_row = by (row_of (tree.routes t) name) (sound.rows t name here ∙ ap (λ b. cond
        (b && not (same name t)) (Some (shape_in names info tree.forest t name)) None) unknown)
      where
        by : (o : Option ServerRow) → option_map shape o ≡ None → o ≡ None
        by None is = refl
        by (Some r) is = cc is

    not_itself : is_itself (tree.routes t) name ≡ false
    not_itself = ap (λ n. same n name) (sound.named t (here_among t here))
        ∙ same_unless t name (λ is. another (sym is))

    pub not_known : is_known (tree.routes t) name ≡ false
    not_known = ap (λ b. b || is_some (row_of (tree.routes t) name)) not_itself ∙ ap is_some no_row

    -- there is room for it
    row_among : (q : List ℕ) (r : ServerRow) → row_of (tree.routes t) q ≡ Some r → IsAmong names q
    row_among q r there = sound.known_among q (by (tree.knows q) refl)
      where
        by : (b : Bool) → tree.knows q ≡ b → b ≡ true
        by true is = refl
        by false is =
            absurd (cc (sym (ap (option_map shape) there) ∙ sound.rows t q here
            ∙ ap (λ b. cond (b && not (same q t))
            (Some (shape_in names info tree.forest t q)) None) is))

    two_left : IsAmong names name → len (tree.routes t).rows + 2 ≤ length names
    two_left among =
        two_more names (tree.routes t).rows t name any_row row_among (here_among t here) among
        (subst (λ n. row_of (tree.routes t) n ≡ None) (sound.named t (here_among t here))
        (sound.numbered t (here_among t here)).not_itself) no_row
        (apart (same_fold name t) refl)
      where
        apart : (b : Bool) → same_fold name t ≡ b → b ≡ false
        apart true is = absurd (another (one_fold name t is))
        apart false is = refl

        any_row : ServerRow
        any_row = record {
          link = 0;
          uplink = [];
          name = [];
          distance = 0;
          token = 0;
          ours = 0;
          info = [];
        }

    pub low_number : IsAmong names name → smallest_free (tree.routes t) ≤ max_servers
    low_number among =
        let sum = two_left among in
        let long = length-values (tree.routes t).rows in
        let most = smallest_is_low (others (tree.routes t)) in
        omega arith

    pub not_full : IsAmong names name → is_full (tree.routes t) ≡ false
    not_full among = by (is_full (tree.routes t)) refl
      where
        by : (b : Bool) → nat_le max_servers (suc (length (others (tree.routes t)))) ≡ b → b ≡ false
        by false is = refl
        by true is =
            let most = leb-true max_servers (suc (length (others (tree.routes t)))) is in
            let long = length-values (tree.routes t).rows in
            let sum = two_left among in
            absurd (omega arith)

  -- ---- a server more

  module _ (uplink name words : List ℕ) (can : CanGain names info tree uplink name words) where
    abbrev next : Name → Name
    next t = toward tree.forest t name

    abbrev more : Tree
    more = gained names uplink name words tree

    hop : (t : Name) → tree.here t ≡ true → IsNextHop tree.forest t name (next t)
    hop t here = next_hop tree.forest t name sound.forest (can.joined t here)
        (λ is. another t name here can.unknown (sym is))

    next_among : (t : Name) → tree.here t ≡ true → IsAmong names (next t)
    next_among t here =
        sound.ends (next t) t (linked_back tree.forest t (next t) (hop t here).linked)

    pub added_so : (t : Name) → tree.here t ≡ true → added_fault (tree.routes t) name ≡ None
    added_so t here = by (is_known (tree.routes t) name) (is_server name) (is_full (tree.routes t))
        (not_known t name here can.unknown)
        (servers.named name can.among) (not_full t name here can.unknown can.among)
      where
        by : (a b c : Bool) → a ≡ false → b ≡ true → c ≡ false → (if a then Some fault.Known else
            (if not b then Some fault.BadName else (if c then Some fault.Full else None))) ≡ None
        by true b c x y z = cc x
        by false false c x y z = cc y
        by false true true x y z = cc z
        by false true false x y z = refl

    -- the neighbour's number for it is free
    pub number_free : (t : Name) → tree.here t ≡ true
        → token_in (tree.routes t) (index_in names (next t)) (told_token tree (next t) name) ≡ None
    number_free t here = ap (option_map (λ (r : ServerRow). r.name)) (none_found test
        (others (tree.routes t)) (by (list_any test (others (tree.routes t))) refl))
      where
        test : ServerRow → Bool
        test = has_token (index_in names (next t)) (told_token tree (next t) name)

        by : (b : Bool) → list_any test (others (tree.routes t)) ≡ b → b ≡ false
        by false is = refl
        by true is =
            let at = some_stands test (tree.routes t).rows is in
            let parts = and_parts (nat_eq at.value.link (index_in names (next t)))
            (nat_eq at.value.token (told_token tree (next t) name)) at.passes in
            let other : at.name ≢ name = λ e. cc (sym (no_row t name here can.unknown)
            ∙ ap (row_of (tree.routes t)) (sym e) ∙ at.there) in
            absurd (told_apart (tree.routes (next t))
            (sound.numbered (next t) (next_among t here)) at.name name at.value.token other
            (sound.tokens (next t) t at.name at.value here
            (linked_back tree.forest t (next t) (hop t here).linked) at.there
            ((Decides-eqb at.value.link (index_in names (next t))).0 parts.0))
            (sym ((Decides-eqb at.value.token (told_token tree (next t) name)).0 parts.1)))

    -- what is kept of it
    abbrev new_row : Name → ServerRow
    new_row t = record {
      link = index_in names (next t);
      uplink = uplink;
      name = name;
      distance = distance tree.forest t name;
      token = told_token tree (next t) name;
      ours = smallest_free (tree.routes t);
      info = words;
    }

    pub told_here : (t : Name) → tree.here t ≡ true
        → gained_at names tree uplink name words t ≡ known_told names tree uplink name words t
    told_here t here =
        ap (λ b. if b && not (is_known (tree.routes t) name)
        then known_told names tree uplink name words t else tree.routes t) here
        ∙ ap (λ b. if not b then known_told names tree uplink name words t else tree.routes t)
        (not_known t name here can.unknown)

    row_told : (t q : Name) → row_of (known_told names tree uplink name words t) q
        ≡ cond (same_fold q name) (Some (new_row t)) (row_of (tree.routes t) q)
    row_told t q = row-alter name (λ _. Some (new_row t)) (tree.routes t).rows q

    -- either a server is told, or it is as it was
    by_moment : (P : Known → Type 0) (t : Name)
        → (tree.here t ≡ true → P (known_told names tree uplink name words t))
        → (tree.here t ≡ false → P (tree.routes t)) → P (gained_at names tree uplink name words t)
    by_moment P t told still = by (tree.here t) refl
      where
        by : (b : Bool) → tree.here t ≡ b → P (gained_at names tree uplink name words t)
        by true here = subst P (sym (told_here t here)) (told here)
        by false away =
            subst P (sym (ap (λ b. if b && not (is_known (tree.routes t) name) then known_told names
            tree uplink name words t else tree.routes t) away)) (still away)

    shape_new : (t : Name) → tree.here t ≡ true
        → shape (new_row t) ≡ shape_in names info tree.forest t name
    shape_new t here =
        ap (λ u. record {
          link = index_in names (next t);
          uplink = u;
          name = name;
          distance = distance tree.forest t name;
          info = words;
        }) (sym (can.beside t here))
        ∙ ap (λ i. record {
          link = index_in names (next t);
          uplink = toward tree.forest name t;
          name = name;
          distance = distance tree.forest t name;
          info = i;
        }) can.described

    known_now : (b c : Bool) → (b || c) ≡ cond c true b
    known_now true true = refl
    known_now true false = refl
    known_now false true = refl
    known_now false false = refl

    rows_now : (t x : Name) → tree.here t ≡ true
        → option_map shape (row_of (gained_at names tree uplink name words t) x)
        ≡ (if (tree.knows x || same x name) && not (same x t)
        then Some (shape_in names info tree.forest t x) else None)
    rows_now t x here =
        ap (λ known. option_map shape (row_of known x)) (told_here t here)
        ∙ ap (option_map shape) (row_told t x)
        ∙ by (same_fold x name) refl (tell x name)
      where
        by : (b : Bool) → same_fold x name ≡ b → Telling x name
            → option_map shape (cond b (Some (new_row t)) (row_of (tree.routes t) x))
            ≡ (if (tree.knows x || same x name) && not (same x t)
            then Some (shape_in names info tree.forest t x) else None)
        by true one (unlike _ two) = absurd (two (one_fold x name one))
        by true one (alike is e) =
            ap Some (shape_new t here ∙ ap (shape_in names info tree.forest t) (sym e))
            ∙ sym (ap (λ b. cond ((tree.knows x || b) && not (same x t))
            (Some (shape_in names info tree.forest t x)) None) is
            ∙ ap (λ b. cond (b && not (same x t)) (Some (shape_in names info tree.forest t x)) None)
            (known_now (tree.knows x) true)
            ∙ ap (λ b. cond (not b) (Some (shape_in names info tree.forest t x)) None)
            (same_unless x t (λ f. another t name here can.unknown (sym e ∙ f))))
        by false two (alike is e) =
            absurd (cc (sym two ∙ ap (same_fold x) (sym e) ∙ same_fold-refl x))
        by false two (unlike is _) =
            sound.rows t x here
            ∙ sym (ap (λ b. cond ((tree.knows x || b) && not (same x t))
            (Some (shape_in names info tree.forest t x)) None) is
            ∙ ap (λ b. cond (b && not (same x t)) (Some (shape_in names info tree.forest t x)) None)
            (known_now (tree.knows x) false))

    numbered_now : (t : Name) → IsAmong names t
        → IsNumbered (gained_at names tree uplink name words t)
    numbered_now t among = by_moment IsNumbered t
        (λ here. stays_numbered.added (tree.routes t) (index_in names (next t)) uplink name
        (distance tree.forest t name) (told_token tree (next t) name) words
        (sound.numbered t among) (servers.named uplink (sound.known_among uplink can.uplink_known))
        (subst IsInfo (sym can.described) (servers.described name can.among)) (added_so t here)
        (number_free t here))
        (λ away. sound.numbered t among)

    named_now : (t : Name) → IsAmong names t → (gained_at names tree uplink name words t).name ≡ t
    named_now t among = by_moment (λ (known : Known). known.name ≡ t) t
        (λ here. sound.named t among) (λ away. sound.named t among)

    told_now : (t : Name) → IsAmong names t
        → (gained_at names tree uplink name words t).about.tells_away ≡ true
    told_now t among = by_moment (λ (known : Known). known.about.tells_away ≡ true) t
        (λ here. sound.told_away t among) (λ away. sound.told_away t among)

    -- ---- one number at both ends

    token_told : (t q : Name) → same_fold q name ≡ false
        → token_out (known_told names tree uplink name words t) q ≡ token_out (tree.routes t) q
    token_told t q two =
        ap (λ o. cond (is_itself (tree.routes t) q) (Some 1)
        (option_map (λ (r : ServerRow). r.ours) o))
        (row_told t q ∙ ap (λ b. cond b (Some (new_row t)) (row_of (tree.routes t) q)) two)

    -- the number that a server has for the new one is the one that it tells
    pub token_new : (t : Name) → IsAmong names t
        → (tree.here t ≡ true) ⊎ (is_known (tree.routes t) name ≡ true)
        → token_out (gained_at names tree uplink name words t) name ≡ Some (told_token tree t name)
    token_new t among (inl here) =
        ap (λ known. token_out known name) (told_here t here)
        ∙ added_gets_smallest (tree.routes t) (index_in names (next t)) uplink name
        (distance tree.forest t name) (told_token tree (next t) name) words
        (not_itself t name here can.unknown)
        ∙ ap Some (sym (new_number (tree.routes t) (sound.numbered t among) name
        (not_known t name here can.unknown)))
    token_new t among (inr there) =
        ap (λ known. token_out known name) (by (tree.here t))
        ∙ known_number (tree.routes t) (sound.numbered t among) name there
      where
        by : (b : Bool) → (if b && not (is_known (tree.routes t) name)
            then known_told names tree uplink name words t else tree.routes t) ≡ tree.routes t
        by true = ap (λ b. if not b then known_told names tree uplink name words t
            else tree.routes t) there
        by false = refl

    tokens_now : (t u x : Name) (r : ServerRow) → tree.here u ≡ true → AreLinked tree.forest t u
        → row_of (gained_at names tree uplink name words u) x ≡ Some r → r.link ≡ index_in names t
        → token_out (gained_at names tree uplink name words t) x ≡ Some r.token
    tokens_now t u x r here linked there link =
        by (same_fold x name) refl (sym (row_told u x)
        ∙ sym (ap (λ known. row_of known x) (told_here u here)) ∙ there)
      where
        by : (b : Bool) → same_fold x name ≡ b
            → cond b (Some (new_row u)) (row_of (tree.routes u) x) ≡ Some r
            → token_out (gained_at names tree uplink name words t) x ≡ Some r.token
        by true one is =
            let row_is = same_Some (new_row u) r is in
            let one_server = one_place names t (next u) (sound.ends t u linked)
            (sym link ∙ ap (λ (s : ServerRow). s.link) (sym row_is)) in
            ap (token_out (gained_at names tree uplink name words t)) (one_fold x name one)
            ∙ token_new t (sound.ends t u linked) (subst (λ p. (tree.here p ≡ true)
            ⊎ (is_known (tree.routes p) name ≡ true)) (sym one_server) (can.told u here))
            ∙ ap (λ p. Some (told_token tree p name)) one_server
            ∙ ap (λ (s : ServerRow). Some s.token) row_is
        by false two is =
            by_moment (λ known. token_out known x ≡ token_out (tree.routes t) x) t
            (λ _. token_told t x two) (λ _. refl)
            ∙ sound.tokens t u x r here linked is link

    low_now : (t x : Name) (r : ServerRow) → tree.here t ≡ true
        → row_of (gained_at names tree uplink name words t) x ≡ Some r → r.ours ≤ max_servers
    low_now t x r here there = by (same_fold x name)
        (sym (row_told t x) ∙ sym (ap (λ known. row_of known x) (told_here t here)) ∙ there)
      where
        by : (b : Bool) → cond b (Some (new_row t)) (row_of (tree.routes t) x) ≡ Some r
            → r.ours ≤ max_servers
        by true is = subst (λ (row : ServerRow). row.ours ≤ max_servers)
            (same_Some (new_row t) r is) (low_number t name here can.unknown can.among)
        by false is = sound.low t x r here is

    pub gained_is_sound : IsSoundTree names info more
    gained_is_sound = record {
      forest = sound.forest;
      ends = sound.ends;
      here_known = λ t here. ap (λ b. b || same t name) (sound.here_known t here);
      known_among = λ x known. by_known x (tell x name) known;
      joined = λ t x here known. joined_now t x here (tell x name) known;
      rows = rows_now;
      numbered = numbered_now;
      named = named_now;
      told_away = told_now;
      low = low_now;
      tokens = tokens_now;
    }
      where
        or_none : (b : Bool) → (b || false) ≡ true → b ≡ true
        or_none true is = refl
        or_none false is = cc is

        by_known : (x : Name) → Telling x name → (tree.knows x || same x name) ≡ true
            → IsAmong names x
        by_known x (alike _ e) known = subst (IsAmong names) (sym e) can.among
        by_known x (unlike is _) known = sound.known_among x
            (or_none (tree.knows x) (sym (ap (λ b. tree.knows x || b) is) ∙ known))

        joined_now : (t x : Name) → tree.here t ≡ true → Telling x name
            → (tree.knows x || same x name) ≡ true → AreJoined tree.forest t x
        joined_now t x here (alike _ e) known =
            subst (AreJoined tree.forest t) (sym e) (can.joined t here)
        joined_now t x here (unlike is _) known = sound.joined t x here
            (or_none (tree.knows x) (sym (ap (λ b. tree.knows x || b) is) ∙ known))
