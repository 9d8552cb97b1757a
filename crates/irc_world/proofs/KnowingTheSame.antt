-- What a server knows of the network depends on its own part alone.
use Rattle.std.proofs.Common.{◌≡◌, ◌≢◌, ℕ, ◌+◌, Bool, true, false, cond, ◌&&◌, ◌||◌, Option, Some}
use Rattle.std.proofs.Common.{None, List, [], ◌∷◌, refl, sym, ◌∙◌, ap, subst, map, count_by, arith}
use Rattle.std.proofs.Common.{if◌then◌else◌}
use Rattle.std.proofs.Math.Path.{fun_ext}
use Rattle.std.proofs.lemmas.List.Sums.{sum_by-cons}
use Rattle.std.specs.Option.{option_map_or}
use Rattle.std.specs.FinMap.{values}
use Rattle.std.proofs.lemmas.Option.{same_Some}
use Rattle.irc_names.specs.Tables.{tabulate}
use Rattle.irc_relay.specs.Links.{Name, same, Link, part, joined, distance, links_without, has_ends}
use Rattle.irc_relay.specs.Links.{AreJoined, AreLinked, IsForest, IsLeft, IsMade, within, over}
use Rattle.irc_relay.specs.Links.{back, still, parted, turned}
use Rattle.irc_relay.specs.Laws.{JoinedOverLink}
use Rattle.irc_relay.specs.Lemmas.TellingNames.{Telling, alike, unlike, tell, same_unless}
use Rattle.irc_routes.specs.About.{says_nothing}
use Rattle.irc_routes.specs.Place.{alone}
use Rattle.irc_world.specs.World.{Setting, setting_of, known_from, has_end, joined_place, place_at}
use Rattle.irc_world.proofs.SameWorlds.{known_at}
use Rattle.irc_world.proofs.StaysSound.{one_part}

-- of these links as of those: who is in its part, how far, and how many links it has
pub record KnowsTheSame (one other : List Link) (own : Name) : Type 0 where
  pub part_same : (t : Name) → joined one own t ≡ joined other own t
  pub far_same : (t : Name) → AreJoined one own t → distance one own t ≡ distance other own t
  pub count_same : count_by (has_end own) one ≡ count_by (has_end own) other

found_named : (settings : List Setting) (server : Name) (own : Setting)
    → setting_of settings server ≡ Some own → own.name ≡ server
found_named [] server own is = absurd (cc is)
found_named (first ∷ settings) server own is =
    by (tell first.name server) (found_named settings server own)
  where
    by : Telling first.name server → (setting_of settings server ≡ Some own → own.name ≡ server)
        → own.name ≡ server
    by (alike yes_so e) later =
        let here = same_Some first own
        (sym (ap (λ b. if b then Some first else setting_of settings server) yes_so) ∙ is) in
        ap (λ (s : Setting). s.name) (sym here) ∙ e
    by (unlike not_so _) later =
        later (sym (ap (λ b. if b then Some first else setting_of settings server) not_so) ∙ is)

module _ (settings : List Setting) (one other : List Link) where
  known_so : (own server : Name) → KnowsTheSame one other own
      → known_from settings one own server ≡ known_from settings other own server
  known_so own server so = by (joined one own server) refl
    where
      by : (b : Bool) → joined one own server ≡ b
          → known_from settings one own server ≡ known_from settings other own server
      by true is =
          ap (λ there. known_at settings server there (distance one own server))
          (so.part_same server)
          ∙ ap (known_at settings server (joined other own server))
          (so.far_same server (one_part one own server is))
      by false is =
          ap (λ there. known_at settings server there (distance one own server)) is
          ∙ sym (ap (λ there. known_at settings server there (distance other own server))
          (sym (so.part_same server) ∙ is))

  place_so : (own : Setting) → KnowsTheSame one other own.name
      → joined_place settings one own ≡ joined_place settings other own
  place_so own so = λ i. record {
    name = own.name;
    about = own.about;
    links = so.count_same i;
    servers = values (tabulate (map (λ (s : Setting). s.name) settings)
        (fun_ext (λ server. known_so own.name server so) i));
  }

  pub place_known : (server : Name) → KnowsTheSame one other server
      → place_at settings one server ≡ place_at settings other server
  place_known server so = by (setting_of settings server) refl
    where
      by : (o : Option Setting) → setting_of settings server ≡ o
          → option_map_or (joined_place settings one) o (alone server says_nothing)
          ≡ option_map_or (joined_place settings other) o (alone server says_nothing)
      by None is = refl
      by (Some own) is = place_so own
          (subst (KnowsTheSame one other) (sym (found_named settings server own is)) so)

-- ---- a link between other parts

nothing_first : (n : ℕ) → cond {A = ℕ} false 1 0 + n ≡ n
nothing_first n = omega arith

counted : (server : Name) (l : Link) (ls : List Link) → has_end server l ≡ false
    → count_by (has_end server) (l ∷ ls) ≡ count_by (has_end server) ls
counted server l ls none = sum_by-cons (λ x. cond (has_end server x) 1 0) l ls
    ∙ ap (λ b. cond {A = ℕ} b 1 0 + count_by (has_end server) ls) none
    ∙ nothing_first (count_by (has_end server) ls)

pub link_between : (l : Link) (ls : List Link) (server : Name) → IsMade l ls
    → (AreJoined ls server l.near → ⊥) → (AreJoined ls server l.far → ⊥)
    → KnowsTheSame (l ∷ ls) ls server
link_between l ls server made not_near not_far = record {
  part_same =
      λ t. by t (tell (part (l ∷ ls) server) (part (l ∷ ls) t)) (tell (part ls server) (part ls t));
  far_same = λ t one. sym (made.kept server t (before t one)).distance_same;
  count_same =
      counted server l ls (λ i. same_unless l.near server (λ e. not_near (ap (part ls) (sym e))) i
      || same_unless l.far server (λ e. not_far (ap (part ls) (sym e))) i);
}
  where
    before : (t : Name) → AreJoined (l ∷ ls) server t → AreJoined ls server t
    before t one = elim (made.meets server t one) [
      | within e ↦ e
      | over e _ ↦ absurd (not_near e)
      | back e _ ↦ absurd (not_far e)
    ]

    by : (t : Name) → Telling (part (l ∷ ls) server) (part (l ∷ ls) t)
        → Telling (part ls server) (part ls t) → joined (l ∷ ls) server t ≡ joined ls server t
    by t (alike is _) (alike also _) = is ∙ sym also
    by t (alike _ e) (unlike _ n) = absurd (n (before t e))
    by t (unlike _ n) (alike _ e) = absurd (n (made.kept server t e).joined)
    by t (unlike is _) (unlike also _) = is ∙ sym also

-- ---- a link lost in another part

both_fail : (x y : Bool) → ((x && false) || (y && false)) ≡ false
both_fail true true = refl
both_fail true false = refl
both_fail false true = refl
both_fail false false = refl

not_end : (l : Link) (near far server : Name) → server ≢ near → server ≢ far
    → has_ends l near far ≡ true → has_end server l ≡ false
not_end l near far server off_near off_far is = by (tell l.near server) (tell l.far server)
  where
    by : Telling l.near server → Telling l.far server → has_end server l ≡ false
    by (alike _ e) _ = absurd (let clash = sym is
        ∙ (λ i. (same_unless l.near near (λ q. off_near (sym e ∙ q)) i && same l.far far)
        || (same_unless l.near far (λ q. off_far (sym e ∙ q)) i && same l.far near)) in cc clash)
    by (unlike _ _) (alike _ e) = absurd (let clash = sym is
        ∙ (λ i. (same l.near near && same_unless l.far far (λ q. off_far (sym e ∙ q)) i)
        || (same l.near far && same_unless l.far near (λ q. off_near (sym e ∙ q)) i))
        ∙ both_fail (same l.near near) (same l.near far) in cc clash)
    by (unlike f _) (unlike g _) = λ i. f i || g i

left_count : (links : List Link) (near far server : Name) → server ≢ near → server ≢ far
    → count_by (has_end server) (links_without links near far) ≡ count_by (has_end server) links
unfolding links_without
left_count [] near far server off_near off_far = refl
left_count (l ∷ ls) near far server off_near off_far =
    by (has_ends l near far) refl (left_count ls near far server off_near off_far)
  where
    by : (b : Bool) → has_ends l near far ≡ b → count_by (has_end server)
        (links_without ls near far) ≡ count_by (has_end server) ls → count_by (has_end server)
        (if b then ls else l ∷ links_without ls near far) ≡ count_by (has_end server) (l ∷ ls)
    by true is later = sym (counted server l ls (not_end l near far server off_near off_far is))
    by false is later =
        sum_by-cons (λ x. cond (has_end server x) 1 0) l (links_without ls near far)
        ∙ ap (λ n. cond {A = ℕ} (has_end server l) 1 0 + n) later
        ∙ sym (sum_by-cons (λ x. cond (has_end server x) 1 0) l ls)

pub cut_between : JoinedOverLink → (links : List Link) (near far server : Name) → IsForest links
    → AreLinked links near far → IsLeft (links_without links near far) links near far
    → (AreJoined links server near → ⊥) → (AreJoined links server far → ⊥)
    → KnowsTheSame (links_without links near far) links server
cut_between over_link links near far server forest are left not_near not_far = record {
  part_same = λ t. by t (tell (part (links_without links near far) server)
      (part (links_without links near far) t)) (tell (part links server) (part links t));
  far_same = λ t one. (left.kept server t one).distance_same;
  count_same = left_count links near far server (λ e. not_near (ap (part links) e))
      (λ e. not_far (ap (part links) e));
}
  where
    after : (t : Name) → AreJoined links server t
        → AreJoined (links_without links near far) server t
    after t one = elim (over_link links near far server t forest are one) [
      | still e ↦ e
      | parted e _ ↦ absurd (not_near (left.kept server near e).joined)
      | turned e _ ↦ absurd (not_far (left.kept server far e).joined)
    ]

    by : (t : Name) → Telling (part (links_without links near far) server)
        (part (links_without links near far) t) → Telling (part links server) (part links t)
        → joined (links_without links near far) server t ≡ joined links server t
    by t (alike is _) (alike also _) = is ∙ sym also
    by t (alike _ e) (unlike _ n) = absurd (n (left.kept server t e).joined)
    by t (unlike _ n) (alike _ e) = absurd (n (after t e))
    by t (unlike is _) (unlike also _) = is ∙ sym also
