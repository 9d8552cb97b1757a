-- What a server puts out on a link goes behind what was on its way to the other end.
use Rattle.std.proofs.Common.{◌≡◌, ◌≢◌, ℕ, if◌then◌else◌, Some}
use Rattle.std.proofs.Common.{None, List, [], ◌∷◌, ◌++◌, inl, inr, append-nil, refl, sym, ap, subst}
use Rattle.std.proofs.Common.{◌∙◌}
use Rattle.std.proofs.lemmas.Bool.Decides.{eqb_tells}
use Rattle.std.proofs.lemmas.List.{append_assoc}
use Rattle.irc_batch.specs.Batches.{Sent, line_to, end_of, line_on, end_of_link}
use Rattle.irc_relay.specs.Links.{Name}
use Rattle.irc_overlaps.specs.Networks.{Net, end_at, AreOneLink, all_sent_out, far_end}
use Rattle.irc_overlaps.specs.Networks.{sending, sent_out, with_at, with_layer, closing}
use Rattle.irc_overlaps.specs.Laws.{LinesGoBehind, lines_on}
use Rattle.irc_overlaps.proofs.AtEnds.{with_at-it, with_at-other, one_end, no_end, Reaching}
use Rattle.irc_overlaps.proofs.AtEnds.{reaches, reaches_none, reaching}
use Rattle.irc_overlaps.proofs.PutOut.{sending_other}
use Rattle.irc_overlaps.proofs.SoundEnds.{far_apart}

module _ (s t : Name) (n m : ℕ) (two : s ≢ t) where
  -- the other end has this one for its own
  abbrev Faces : Net → Type 0
  Faces net = net.other t m ≡ Some (end_at s n)

  -- a line on another link, or on none
  sending_elsewhere : (net : Net) → Faces net → (k : ℕ) (line : List ℕ)
      → ((v : Name) (l : ℕ) → AreOneLink net.other s k v l → n ≡ k → ⊥) → Reaching net s k
      → (sending (far_end net s k) line net).coming t m ≡ net.coming t m
  sending_elsewhere net faces k line never (reaches v l e one) =
      ap (λ far. (sending far line net).coming t m) e
      ∙ with_at-other v l (net.coming v l ++ line ∷ []) net.coming t m
      (λ f g. never v l one (one_end (net.other t m) s n s k faces
      (ap (λ w. net.other w m) f ∙ ap (net.other v) g ∙ one.back)).1)
  sending_elsewhere net faces k line never (reaches_none e _) =
      ap (λ far. (sending far line net).coming t m) e

  still_faces : (net : Net) → Faces net → (sent : Sent) → Faces (sent_out s sent net)
  still_faces net faces (line_to conn line) = faces
  still_faces net faces (end_of conn) = faces
  still_faces net faces (line_on k line) =
      ap (λ other. other t m) (sending_other (far_end net s k) line net) ∙ faces
  still_faces net faces (end_of_link k reason) =
      with_at-other s k None net.other t m (λ e f. two (sym e)) ∙ faces

  -- ---- once this end is gone

  still_gone : (net : Net) → net.other s n ≡ None → (sent : Sent)
      → (sent_out s sent net).other s n ≡ None
  still_gone net gone (line_to conn line) = gone
  still_gone net gone (end_of conn) = gone
  still_gone net gone (line_on k line) =
      ap (λ other. other s n) (sending_other (far_end net s k) line net) ∙ gone
  still_gone net gone (end_of_link k reason) = elim (eqb_tells n k) [
    | inl p ↦ with_at-it s k None net.other s n refl p.1
    | inr p ↦ with_at-other s k None net.other s n (λ e f. p.1 f) ∙ gone
  ]

  one_lost : (net : Net) → Faces net → net.other s n ≡ None → (sent : Sent)
      → (sent_out s sent net).coming t m ≡ net.coming t m
  one_lost net faces gone (line_to conn line) = refl
  one_lost net faces gone (end_of conn) = refl
  one_lost net faces gone (line_on k line) =
      sending_elsewhere net faces k line
      (λ v l one e. no_end (net.other s k) v l (ap (net.other s) (sym e) ∙ gone) one.forth)
      (reaching net s k)
  one_lost net faces gone (end_of_link k reason) =
      with_at-other s k [] net.coming t m (λ e f. two (sym e))

  all_lost : (outs : List Sent) (net : Net) → Faces net → net.other s n ≡ None
      → (all_sent_out s outs net).coming t m ≡ net.coming t m
  all_lost [] net faces gone = refl
  all_lost (sent ∷ outs) net faces gone =
      all_lost outs (sent_out s sent net) (still_faces net faces sent) (still_gone net gone sent)
      ∙ one_lost net faces gone sent

  -- ---- while the link is whole

  line_behind : (net : Net) → AreOneLink net.other s n t m → (line : List ℕ) → Reaching net s n
      → (sending (far_end net s n) line net).coming t m ≡ net.coming t m ++ line ∷ []
  line_behind net whole line (reaches v l e one) =
      let far = one_end (net.other s n) v l t m one.forth whole.forth in
      ap (λ far. (sending far line net).coming t m) e
      ∙ with_at-it v l (net.coming v l ++ line ∷ []) net.coming t m (sym far.0) (sym far.1)
      ∙ ap (λ w. net.coming w l ++ line ∷ []) far.0 ∙ ap (λ k. net.coming t k ++ line ∷ []) far.1
  line_behind net whole line (reaches_none e none) = absurd (none t m whole)

  -- the end of another link leaves it whole
  still_whole : (net : Net) → AreOneLink net.other s n t m → (k : ℕ) → n ≢ k
      → AreOneLink (with_at s k None net.other) s n t m
  still_whole net whole k o = record {
    forth = with_at-other s k None net.other s n (λ e f. o f) ∙ whole.forth;
    back = with_at-other s k None net.other t m (λ e f. two (sym e)) ∙ whole.back;
  }

  abbrev Goes : List Sent → Net → Type 0
  Goes outs net =
      (all_sent_out s outs net).coming t m ≡ net.coming t m ++ lines_on n outs

  by_line : (k : ℕ) (line : List ℕ) (outs : List Sent)
      → ((net : Net) → AreOneLink net.other s n t m → Goes outs net)
      → (net : Net) → AreOneLink net.other s n t m → Goes (line_on k line ∷ outs) net
  by_line k line outs rest net whole = elim (eqb_tells n k) [
    | inl p ↦ rest next next_whole
        ∙ ap (λ v. v ++ lines_on n outs)
        (ap (λ i. (sending (far_end net s i) line net).coming t m) (sym p.1)
        ∙ line_behind net whole line (reaching net s n))
        ∙ append_assoc (net.coming t m) (line ∷ []) (lines_on n outs)
        ∙ ap (λ b. net.coming t m ++ (if b then line ∷ lines_on n outs else lines_on n outs))
        (sym p.0)
    | inr p ↦ rest next next_whole
        ∙ ap (λ v. v ++ lines_on n outs)
        (sending_elsewhere net whole.back k line (λ v l one e. p.1 e) (reaching net s k))
        ∙ ap (λ b. net.coming t m ++ (if b then line ∷ lines_on n outs else lines_on n outs))
        (sym p.0)
  ]
    where
      next : Net
      next = sent_out s (line_on k line) net

      next_whole : AreOneLink next.other s n t m
      next_whole = subst (λ other. AreOneLink other s n t m)
          (sym (sending_other (far_end net s k) line net)) whole

  all_behind : (outs : List Sent) (net : Net) → AreOneLink net.other s n t m → Goes outs net
  all_behind [] net whole = sym (append-nil (net.coming t m))
  all_behind (line_to conn line ∷ outs) net whole =
      all_behind outs (sent_out s (line_to conn line) net) whole
  all_behind (end_of conn ∷ outs) net whole = all_behind outs (sent_out s (end_of conn) net) whole
  all_behind (line_on k line ∷ outs) net whole = by_line k line outs (all_behind outs) net whole
  all_behind (end_of_link k reason ∷ outs) net whole = elim (eqb_tells n k) [
    | inl p ↦ all_lost outs (closing s k reason net)
        (still_faces net whole.back (end_of_link k reason))
        (with_at-it s k None net.other s n refl p.1)
        ∙ with_at-other s k [] net.coming t m (λ e f. two (sym e))
        ∙ sym (append-nil (net.coming t m))
        ∙ ap (λ b. net.coming t m ++ (if b then [] else lines_on n outs)) (sym p.0)
    | inr p ↦ all_behind outs (closing s k reason net) (still_whole net whole k p.1)
        ∙ ap (λ v. v ++ lines_on n outs)
        (with_at-other s k [] net.coming t m (λ e f. two (sym e)))
        ∙ ap (λ b. net.coming t m ++ (if b then [] else lines_on n outs)) (sym p.0)
  ]

pub lines_go_behind : LinesGoBehind
lines_go_behind s t n m event old new sound whole g =
    ap (λ (net : Net). net.coming t m) g.new_is
    ∙ all_behind s t n m (far_apart old sound s t n m whole) g.outs (with_layer s g.layer old) whole
