-- A side is sound as it was with a link more between two servers that were not joined.
use Rattle.std.proofs.Common.{◌≡◌, ◌≢◌, ℕ, inl, inr, Bool, true, false, not, ◌&&◌, Some, None, List}
use Rattle.std.proofs.Common.{◌∷◌, refl, sym, ◌∙◌, ap, subst, arith, if◌then◌else◌}
use Rattle.std.specs.Option.{option_map}
use Rattle.std.proofs.lemmas.Option.{same_Some}
use Rattle.irc_relay.specs.Distances.{IsAmong}
use Rattle.irc_relay.specs.Links.{Name, same, Link, part, toward, distance, AreJoined, AreLinked}
use Rattle.irc_relay.specs.Links.{IsForest, IsKept, IsMade, IsNextHop}
use Rattle.irc_relay.specs.Relay.{streams_from, Covers, TakesFrom}
use Rattle.irc_relay.specs.Lemmas.TellingNames.{same_when}
use Rattle.irc_relay.specs.Lemmas.NextHops.{distance_self, next_hop}
use Rattle.irc_relay.specs.Lemmas.LinkTakenOut.{made}
use Rattle.irc_routes.specs.declared.server_row.ServerRow.{ServerRow}
use Rattle.irc_routes.specs.Known.{row_of, token_out}
use Rattle.irc_follow.specs.Tree.{Tree, Shape, index_in, shape, shape_in, IsSoundTree}
use Rattle.irc_follow.specs.SideState.{info_in}
use Rattle.irc_follow.specs.Relinked.{with_links, CanLink, SideAfterLink, TreeAfterLink}
use Rattle.irc_follow.specs.Lemmas.PlacesOfNames.{one_place}

-- who takes lines of whom is linked to it, where sources cover the links
pub parent_is_linked : (links : List Link) (source : Name → Name) (t p : Name) → IsForest links
    → Covers links source → TakesFrom (streams_from links source) t p → AreLinked links t p
parent_is_linked links source t p forest covers takes =
    subst (λ v. AreLinked links t v) takes.parent
    (next_hop links t (source t) forest (covers.joined t) away).linked
  where
    away : t ≢ source t
    away e =
        let none = ap (λ v. distance links v (source t)) e ∙ distance_self links (source t) in
        let some = takes.below in
        let never : ⊥ = omega arith in
        never

-- what a server is to keep of another stays with the ways between them
pub shape_stays : (names : List Name) (info : Name → List ℕ) (few more : List Link) (t x : Name)
    → IsKept few more t x → IsKept few more x t
    → shape_in names info few t x ≡ shape_in names info more t x
shape_stays names info few more t x forth back =
    ap (λ next. record {
      link = index_in names next;
      uplink = toward few x t;
      name = x;
      distance = distance few t x;
      info = info x;
    }) forth.toward_same
    ∙ ap (λ last. record {
      link = index_in names (toward more t x);
      uplink = last;
      name = x;
      distance = distance few t x;
      info = info x;
    }) back.toward_same
    ∙ ap (λ far. record {
      link = index_in names (toward more t x);
      uplink = toward more x t;
      name = x;
      distance = far;
      info = info x;
    }) forth.distance_same

-- so it does with the row that is to be there, if there is to be one
pub kept_row : (b c : Bool) (one other : Shape) → (b ≡ true → one ≡ other)
    → (if b && c then Some one else None) ≡ (if b && c then Some other else None)
kept_row true true one other is = ap (λ kept. Some kept) (is refl)
kept_row true false one other is = refl
kept_row false c one other is = refl

module _ (names : List Name) (info : Name → List ℕ) (tree : Tree) (l : Link)
    (sound : IsSoundTree names info tree) (can : CanLink names tree l) where
  more : IsMade l tree.forest
  more = made l tree.forest sound.forest can.apart

  ends_now : (s t : Name) → AreLinked (l ∷ tree.forest) s t → IsAmong names s
  ends_now s t (inl (inl (near, far))) = subst (IsAmong names) near can.near
  ends_now s t (inl (inr (near, far))) = subst (IsAmong names) far can.far
  ends_now s t (inr linked) = sound.ends s t linked

  rows_now : (t x : Name) → tree.here t ≡ true
      → option_map shape (row_of (tree.routes t) x)
      ≡ (if tree.knows x && not (same x t) then Some (shape_in names info (l ∷ tree.forest) t x)
      else None)
  rows_now t x here =
      sound.rows t x here
      ∙ kept_row (tree.knows x) (not (same x t)) (shape_in names info tree.forest t x)
      (shape_in names info (l ∷ tree.forest) t x)
      (λ known. shape_stays names info tree.forest (l ∷ tree.forest) t x
      (more.kept t x (sound.joined t x here known))
      (more.kept x t (sym (sound.joined t x here known))))

  -- a server behind which a row stands is joined
  behind_is_joined : (u x : Name) (r : ServerRow) → tree.here u ≡ true
      → row_of (tree.routes u) x ≡ Some r → (t : Name) → IsAmong names t → r.link ≡ index_in names t
      → AreJoined tree.forest t u
  behind_is_joined u x r here there t among link = by (tree.knows x) (same x u) refl refl
      (sym (ap (option_map shape) there) ∙ sound.rows u x here)
    where
      by : (b c : Bool) → tree.knows x ≡ b → same x u ≡ c → Some (shape r) ≡ (if tree.knows x
          && not (same x u) then Some (shape_in names info tree.forest u x) else None)
          → AreJoined tree.forest t u
      by false c unknown it is =
          absurd (cc (is ∙ ap (λ b. if b && not (same x u)
          then Some (shape_in names info tree.forest u x) else None) unknown))
      by true true known it is =
          absurd (cc (is ∙ ap (λ b. if b && not (same x u)
          then Some (shape_in names info tree.forest u x) else None) known
          ∙ ap (λ c. if true && not c then Some (shape_in names info tree.forest u x)
          else None) it))
      by true false known it is =
          subst (λ v. AreJoined tree.forest v u) (sym next_is) (hop.joined ∙ sym joined)
        where
          joined : AreJoined tree.forest u x
          joined = sound.joined u x here known

          hop : IsNextHop tree.forest u x (toward tree.forest u x)
          hop = next_hop tree.forest u x sound.forest joined
              (λ e. cc (sym it ∙ same_when x u (sym e)))

          shaped : shape r ≡ shape_in names info tree.forest u x
          shaped = same_Some (shape r) (shape_in names info tree.forest u x)
              (is ∙ ap (λ b. if b && not (same x u) then Some (shape_in names info tree.forest u x)
              else None) known
              ∙ ap (λ c. if true && not c then Some (shape_in names info tree.forest u x)
              else None) it)

          next_is : t ≡ toward tree.forest u x
          next_is = one_place names t (toward tree.forest u x) among
              (sym link ∙ ap (λ (kept : Shape). kept.link) shaped)

  tokens_now : (t u x : Name) (r : ServerRow) → tree.here u ≡ true → AreLinked (l ∷ tree.forest) t u
      → row_of (tree.routes u) x ≡ Some r → r.link ≡ index_in names t
      → token_out (tree.routes t) x ≡ Some r.token
  tokens_now t u x r here (inr linked) there link = sound.tokens t u x r here linked there link
  tokens_now t u x r here (inl (inl (near, far))) there link =
      absurd (can.apart (ap (part tree.forest) near
      ∙ behind_is_joined u x r here there t (subst (IsAmong names) near can.near) link
      ∙ sym (ap (part tree.forest) far)))
  tokens_now t u x r here (inl (inr (near, far))) there link =
      absurd (can.apart (ap (part tree.forest) near
      ∙ sym (behind_is_joined u x r here there t (subst (IsAmong names) far can.far) link)
      ∙ sym (ap (part tree.forest) far)))

  pub sound_with_link : IsSoundTree names info (with_links (l ∷ tree.forest) tree)
  sound_with_link = record {
    forest = more.forest;
    ends = ends_now;
    here_known = sound.here_known;
    known_among = sound.known_among;
    joined = λ t x here known. (more.kept t x (sound.joined t x here known)).joined;
    rows = rows_now;
    numbered = sound.numbered;
    named = sound.named;
    told_away = sound.told_away;
    low = sound.low;
    tokens = tokens_now;
  }

pub tree_after_link : TreeAfterLink
tree_after_link names info tree l sound can = sound_with_link names info tree l sound can

pub side_after_link : SideAfterLink
side_after_link s w l source sound can covers = record {
  tree = tree_now;
  parents =
      λ t p takes. parent_is_linked (l ∷ w.tree.forest) source t p tree_now.forest covers takes;
  well = sound.well;
  within = sound.within;
  at_known = sound.at_known;
  registered = sound.registered;
}
  where
    tree_now : IsSoundTree s.names (info_in s.settings) (with_links (l ∷ w.tree.forest) w.tree)
    tree_now = tree_after_link s.names (info_in s.settings) w.tree l sound.tree can
