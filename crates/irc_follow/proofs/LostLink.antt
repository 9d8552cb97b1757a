-- A side is sound as it was without a link behind which it knows nobody any more.
use Rattle.std.proofs.Common.{◌≡◌, ℕ, inl, inr, true, not, ◌&&◌, Some, None, List, [], ◌∷◌, sym}
use Rattle.std.proofs.Common.{◌∙◌, subst, if◌then◌else◌}
use Rattle.std.specs.Option.{option_map}
use Rattle.irc_relay.specs.Links.{Name, same, Link, links_without, AreLinked, IsLeft}
use Rattle.irc_relay.specs.Lemmas.LinkTakenOut.{Ending, ends, ending, passes, taken_out}
use Rattle.irc_relay.specs.Lemmas.LinkTakenOut.{without-ends, without-passes}
use Rattle.irc_routes.specs.Known.{row_of}
use Rattle.irc_follow.specs.Tree.{Tree, shape, shape_in, IsSoundTree}
use Rattle.irc_follow.specs.SideState.{info_in}
use Rattle.irc_follow.specs.Relinked.{with_links, CanCut, SideAfterCut, TreeAfterCut}
use Rattle.irc_follow.specs.Lemmas.NewLink.{kept_row, parent_is_linked, shape_stays}

-- whoever is linked without that link was linked before
linked_before : (links : List Link) (a b t u : Name) → AreLinked (links_without links a b) t u
    → AreLinked links t u
unfolding links_without
linked_before [] a b t u linked = absurd linked
linked_before (l ∷ links) a b t u linked = by (ending l a b) (linked_before links a b t u)
  where
    still : AreLinked (l ∷ links_without links a b) t u → (AreLinked (links_without links a b) t u
        → AreLinked links t u) → AreLinked (l ∷ links) t u
    still (inl newest) before = inl newest
    still (inr older) before = inr (before older)

    by : Ending l a b → (AreLinked (links_without links a b) t u → AreLinked links t u)
        → AreLinked (l ∷ links) t u
    by (ends is _) before =
        inr (subst (λ left. AreLinked left t u) (without-ends l links a b is) linked)
    by (passes is _) before =
        still (subst (λ left. AreLinked left t u) (without-passes l links a b is) linked) before

module _ (names : List Name) (info : Name → List ℕ) (tree : Tree) (a b : Name)
    (sound : IsSoundTree names info tree) (can : CanCut tree a b) where
  left : IsLeft (links_without tree.forest a b) tree.forest a b
  left = taken_out tree.forest a b sound.forest can.linked

  rows_now : (t x : Name) → tree.here t ≡ true
      → option_map shape (row_of (tree.routes t) x)
      ≡ (if tree.knows x && not (same x t)
      then Some (shape_in names info (links_without tree.forest a b) t x) else None)
  rows_now t x here =
      sound.rows t x here
      ∙ kept_row (tree.knows x) (not (same x t)) (shape_in names info tree.forest t x)
      (shape_in names info (links_without tree.forest a b) t x)
      (λ known. sym (shape_stays names info (links_without tree.forest a b) tree.forest t x
      (left.kept t x (can.still t x here known))
      (left.kept x t (sym (can.still t x here known)))))

  pub sound_without_link : IsSoundTree names info (with_links (links_without tree.forest a b) tree)
  sound_without_link = record {
    forest = left.forest;
    ends = λ s t linked. sound.ends s t (linked_before tree.forest a b s t linked);
    here_known = sound.here_known;
    known_among = sound.known_among;
    joined = can.still;
    rows = rows_now;
    numbered = sound.numbered;
    named = sound.named;
    told_away = sound.told_away;
    low = sound.low;
    tokens = λ t u x r here linked there link. sound.tokens t u x r here
        (linked_before tree.forest a b t u linked) there link;
  }

pub tree_after_cut : TreeAfterCut
tree_after_cut names info tree a b sound can = sound_without_link names info tree a b sound can

pub side_after_cut : SideAfterCut
side_after_cut s w a b source sound can covers = record {
  tree = tree_now;
  parents = λ t p takes. parent_is_linked
      (links_without w.tree.forest a b) source t p tree_now.forest covers takes;
  well = sound.well;
  within = sound.within;
  at_known = sound.at_known;
  registered = sound.registered;
}
  where
    tree_now : IsSoundTree s.names (info_in s.settings)
        (with_links (links_without w.tree.forest a b) w.tree)
    tree_now = tree_after_cut s.names (info_in s.settings) w.tree a b sound.tree can
