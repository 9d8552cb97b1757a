-- The test of agreement tells whether two halves agree.
use Rattle.std.proofs.Common.{◌≡◌, ℕ, Bool, true, false, cond, Option, Some, None, List, [], ◌∷◌}
use Rattle.std.proofs.Common.{refl, sym, ◌∙◌, ap}
use Rattle.std.proofs.lemmas.Bool.{and_parts, and_from}
use Rattle.std.proofs.lemmas.Bool.Decides.{Decides-eqb}
use Rattle.std.specs.Bool.{Decides}
use Rattle.std.specs.List.{list_all, AllByRecursion}
use Rattle.std.specs.Option.{option_map_or}
use Rattle.std.specs.Cmp.Lexicographic.{pointwise, bytes_decides}
use Rattle.std.specs.FinMap.{entries, entries_sorted, find, get-entries}
use Rattle.std.proofs.lemmas.Option.{none-some, same_Some}
use Rattle.irc_names.specs.Lemmas.PlainFacts.{is_true}
use Rattle.irc_names.specs.Spellings.{exactly_same}
use Rattle.irc_names.specs.Tables.{Table, fold_cmp, row}
use Rattle.irc_names.specs.TableLaws.{same_fold, one_fold}
use Rattle.irc_modes.specs.declared.modes.Modes.{Modes}
use Rattle.irc_modes.specs.declared.modes.Privacy.{Privacy}
use Rattle.irc_modes.specs.declared.modes.Privacy.TheVariants.{Public, Private, Secret}
use Rattle.irc_channels.specs.declared.channel.Channel.{Channel}
use Rattle.irc_merge.specs.Merge.{AreAlike, Agree, room_without}
use Rattle.irc_merge.specs.Agreeing.{same_flag, same_privacy, same_key, same_limit, same_modes}
use Rattle.irc_merge.specs.Agreeing.{are_alike, AgreeTells}
use Rattle.irc_merge.specs.Lemmas.TableWords.{entries_all}

flag_tells : (one other : Bool) → Decides (same_flag one other) (one ≡ other)
flag_tells true true = (λ e. refl, λ p. refl)
flag_tells true false = (λ e. cc, λ p. cc)
flag_tells false true = (λ e. cc, λ p. cc)
flag_tells false false = (λ e. refl, λ p. refl)

privacy_tells : (one other : Privacy) → Decides (same_privacy one other) (one ≡ other)
privacy_tells Public Public = (λ e. refl, λ p. refl)
privacy_tells Public Private = (λ e. cc, λ p. cc)
privacy_tells Public Secret = (λ e. cc, λ p. cc)
privacy_tells Private Public = (λ e. cc, λ p. cc)
privacy_tells Private Private = (λ e. refl, λ p. refl)
privacy_tells Private Secret = (λ e. cc, λ p. cc)
privacy_tells Secret Public = (λ e. cc, λ p. cc)
privacy_tells Secret Private = (λ e. cc, λ p. cc)
privacy_tells Secret Secret = (λ e. refl, λ p. refl)

key_tells : (one other : Option (List ℕ)) → Decides (same_key one other) (one ≡ other)
key_tells None None = (λ e. refl, λ p. refl)
key_tells None (Some other) = (λ e. cc, λ p. cc)
key_tells (Some one) None = (λ e. cc, λ p. cc)
key_tells (Some one) (Some other) = (
  λ e. ap Some ((bytes_decides one other).0 e),
  λ p. (bytes_decides one other).1 (same_Some one other p),
)

limit_tells : (one other : Option ℕ) → Decides (same_limit one other) (one ≡ other)
limit_tells None None = (λ e. refl, λ p. refl)
limit_tells None (Some other) = (λ e. cc, λ p. cc)
limit_tells (Some one) None = (λ e. cc, λ p. cc)
limit_tells (Some one) (Some other) = (
  λ e. ap Some ((Decides-eqb one other).0 e),
  λ p. (Decides-eqb one other).1 (same_Some one other p),
)

bans_tell : (one other : List (List ℕ)) → Decides (pointwise exactly_same one other) (one ≡ other)
bans_tell [] [] = (λ e. refl, λ p. refl)
bans_tell [] (ban ∷ other) = (λ e. cc, λ p. cc)
bans_tell (ban ∷ one) [] = (λ e. cc, λ p. cc)
bans_tell (ban ∷ one) (mask ∷ other) =
    let rest = bans_tell one other in (
      λ e. let parts =
          and_parts _ _ e in λ i. (bytes_decides ban mask).0 parts.0 i ∷ rest.0 parts.1 i,
      λ p. and_from _ _ ((bytes_decides ban mask).1 (first_of_two p)) (rest.1 (others_of_two p)),
    )
  where
    first_of_two : (ban ∷ one) ≡ (mask ∷ other) → ban ≡ mask
    first_of_two p = cc

    others_of_two : (ban ∷ one) ≡ (mask ∷ other) → one ≡ other
    others_of_two p = cc

modes_alike : (one other : Modes) → same_modes one other ≡ true → one ≡ other
modes_alike one other e =
    let a = and_parts _ _ e in
    let b = and_parts _ _ a.1 in
    let c = and_parts _ _ b.1 in
    let d = and_parts _ _ c.1 in
    let f = and_parts _ _ d.1 in
    let g = and_parts _ _ f.1 in
    let h = and_parts _ _ g.1 in
    λ i. record {
      invite_only = (flag_tells one.invite_only other.invite_only).0 a.0 i;
      moderated = (flag_tells one.moderated other.moderated).0 b.0 i;
      no_outside = (flag_tells one.no_outside other.no_outside).0 c.0 i;
      topic_locked = (flag_tells one.topic_locked other.topic_locked).0 d.0 i;
      privacy = (privacy_tells one.privacy other.privacy).0 f.0 i;
      key = (key_tells one.key other.key).0 g.0 i;
      limit = (limit_tells one.limit other.limit).0 h.0 i;
      bans = (bans_tell one.bans other.bans).0 h.1 i;
    }

alike_modes : (one other : Modes) → one ≡ other → same_modes one other ≡ true
alike_modes one other p =
    and_from _ _
    ((flag_tells one.invite_only other.invite_only).1 (ap (λ (m : Modes). m.invite_only) p))
    (and_from _ _ ((flag_tells one.moderated other.moderated).1 (ap (λ (m : Modes). m.moderated) p))
    (and_from _ _
    ((flag_tells one.no_outside other.no_outside).1 (ap (λ (m : Modes). m.no_outside) p))
    (and_from _ _ ((flag_tells one.topic_locked other.topic_locked).1
    (ap (λ (m : Modes). m.topic_locked) p))
    (and_from _ _ ((privacy_tells one.privacy other.privacy).1 (ap (λ (m : Modes). m.privacy) p))
    (and_from _ _ ((key_tells one.key other.key).1 (ap (λ (m : Modes). m.key) p))
    (and_from _ _ ((limit_tells one.limit other.limit).1 (ap (λ (m : Modes). m.limit) p))
    ((bans_tell one.bans other.bans).1 (ap (λ (m : Modes). m.bans) p))))))))

alike_tells : (one other : Channel) → Decides (are_alike one other) (AreAlike one other)
alike_tells one other = (
  λ e.
      let a = and_parts _ _ e in
      let b = and_parts _ _ a.1 in
      record {
        name = (bytes_decides one.name other.name).0 a.0;
        modes = modes_alike one.modes other.modes b.0;
        topic = (bytes_decides one.topic other.topic).0 b.1;
      },
  λ alike.
      and_from _ _ ((bytes_decides one.name other.name).1 alike.name)
      (and_from _ _ (alike_modes one.modes other.modes alike.modes)
      ((bytes_decides one.topic other.topic).1 alike.topic)),
)

module _ (other : Table Channel) where
  abbrev tested : List ℕ → Channel → Bool
  tested fold channel = option_map_or (are_alike channel) (row other fold) true

  found_tested : (es : List (List ℕ × Channel))
      → list_all (λ (e : List ℕ × Channel). tested e.0 e.1) es ≡ true → (q : List ℕ)
      (channel : Channel) → find fold_cmp q es ≡ Some channel → tested q channel ≡ true
  found_tested [] all q channel is = absurd (none-some channel is)
  found_tested (e ∷ es) all q channel is =
      let parts = and_parts _ _ all in
      by_fold (same_fold q e.0) refl parts.0 (λ later. found_tested es parts.1 q channel later) is
    where
      by_fold : (b : Bool) → same_fold q e.0 ≡ b → tested e.0 e.1 ≡ true
          → (find fold_cmp q es ≡ Some channel → tested q channel ≡ true)
          → cond b (Some e.1) (find fold_cmp q es) ≡ Some channel → tested q channel ≡ true
      by_fold true one here later is =
          (λ i. tested (one_fold q e.0 one i) (sym (same_Some e.1 channel is) i)) ∙ here
      by_fold false two here later is = later is

  all_tested : (es : List (List ℕ × Channel)) → AllByRecursion (λ e. tested e.0 e.1 ≡ true) es
      → list_all (λ (e : List ℕ × Channel). tested e.0 e.1) es ≡ true
  all_tested [] all = refl
  all_tested (e ∷ es) all = and_from _ _ all.0 (all_tested es all.1)

pub agree_tells : AgreeTells
agree_tells one other = (
  λ e. record {
    alike = λ fold c d here there.
        (alike_tells c d).0
        (ap (λ o. option_map_or (are_alike c) o true) (sym there)
        ∙ found_tested (room_without other one).channels (entries (room_without one other).channels)
        e fold c (sym (get-entries (room_without one other).channels fold) ∙ here));
  },
  λ agreed.
      all_tested (room_without other one).channels (entries (room_without one other).channels)
      (entries_all (λ fold channel. tested (room_without other one).channels fold channel ≡ true)
      (entries (room_without one other).channels)
      (λ fold channel is. by_row fold channel agreed (sym_is fold channel is)
      (row (room_without other one).channels fold) refl)
      (is_true _ (entries_sorted (room_without one other).channels))),
)
  where
    sym_is : (fold : List ℕ) (channel : Channel)
        → find fold_cmp fold (entries (room_without one other).channels) ≡ Some channel
        → row (room_without one other).channels fold ≡ Some channel
    sym_is fold channel is = get-entries (room_without one other).channels fold ∙ is

    by_row : (fold : List ℕ) (channel : Channel) → Agree one other
        → row (room_without one other).channels fold ≡ Some channel → (o : Option Channel) → row
        (room_without other one).channels fold ≡ o → option_map_or (are_alike channel) o true ≡ true
    by_row fold channel agreed here None there = refl
    by_row fold channel agreed here (Some d) there =
        (alike_tells channel d).1 (agreed.alike fold channel d here there)
