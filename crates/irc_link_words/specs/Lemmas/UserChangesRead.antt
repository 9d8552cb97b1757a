-- The words of each change of a user's own can stand in a line, and are read again as the change.
use Rattle.std.proofs.Common.{◌≡◌, ℕ, ◌≤◌, Bool, true, false, ◌||◌, not, cond, Some, None, List, []}
use Rattle.std.proofs.Common.{◌∷◌, ◌&&◌, length, unwrap_or, nat_eq, refl, ◌∙◌, ap, lit≤}
use Rattle.std.proofs.lemmas.Slice.Eq.{bytes_eq-Decides}
use Rattle.std.specs.Cmp.{first_so, second_so}
use Rattle.std.specs.Cmp.Lexicographic.{pointwise}
use Rattle.std.specs.List.{find, list_all}
use Rattle.std.specs.Str.{bytes_eq}
use Rattle.irc_line.specs.Carried.{IsCarried, is_carried_byte}
use Rattle.irc_line.specs.Messages.{IsPlainWord}
use Rattle.irc_names.specs.Lemmas.RuleFacts.{away-fits}
use Rattle.irc_names.specs.Limits.{max_words}
use Rattle.irc_names.specs.UserTexts.{is_away, is_away_byte}
use Rattle.irc_users.specs.declared.user_change.UserChange.{UserChange}
use Rattle.irc_users.specs.declared.user_change.UserChange.TheVariants.{Invisible, Away}
use Rattle.irc_room.specs.Limits.{IsChangeWithin}
use Rattle.irc_link_words.specs.UserChanges.{change_letters, change_text, change_words}
use Rattle.irc_link_words.specs.UserChanges.{user_change_of}
use Rattle.irc_link_words.specs.Words.{with_a}

-- all that a line asks of the words of a change
pub record AreChangeWords (change : UserChange) : Type 0 where
  pub letters_plain : IsPlainWord (change_letters change)
  pub letters_carried : IsCarried (change_letters change)
  pub letters_short : length (change_letters change) ≤ 2
  pub text_carried : IsCarried (unwrap_or (change_text change) [])
  pub text_short : length (unwrap_or (change_text change) []) ≤ max_words
  pub read_again : user_change_of (change_words change) ≡ Some change

-- a line can carry what is told of who is away
away_byte_carried : (byte : ℕ) → is_away_byte byte ≡ true → is_carried_byte byte ≡ true
away_byte_carried byte is = by (nat_eq byte 0) (nat_eq byte 0x0D) (nat_eq byte 0x0A) is
  where
    by : (nul cr lf : Bool) → not (nul || (cr || (lf || false))) ≡ true
        → not (nul || (cr || lf)) ≡ true
    by true cr lf is = cc
    by false true lf is = cc
    by false false true is = cc
    by false false false is = refl

bytes_carried : (bytes : List ℕ) → list_all is_away_byte bytes ≡ true → IsCarried bytes
bytes_carried [] all = refl
bytes_carried (byte ∷ bytes) all =
    ap (λ b. b && list_all is_carried_byte bytes)
    (away_byte_carried byte (first_so (is_away_byte byte) (list_all is_away_byte bytes) all))
    ∙ bytes_carried bytes (second_so (is_away_byte byte) (list_all is_away_byte bytes) all)

away_carried : (text : List ℕ) → is_away text ≡ true → IsCarried text
unfolding is_away
away_carried [] is = refl
away_carried (first ∷ rest) is =
    bytes_carried (first ∷ rest) (first_so (list_all is_away_byte (first ∷ rest)) _ is)

pub away_again : (text : List ℕ) → is_away text ≡ true
    → user_change_of (with_a ∷ text ∷ []) ≡ Some (Away (Some text))
away_again text is =
    ap (λ b. find (λ change. pointwise bytes_eq (with_a ∷ text ∷ []) (change_words change))
    (cond b (Away (Some text) ∷ []) [])) is
    ∙ ap (λ b. cond (b && true) (Some (Away (Some text))) None)
    ((bytes_eq-Decides text text).1 refl)

pub are_change_words : (change : UserChange) → IsChangeWithin change → AreChangeWords change
are_change_words (Invisible true) keeps = record {
  letters_plain =
      record { is_some = λ e. cc e; no_space = refl; no_colon = refl; no_nul = refl };
  letters_carried = refl;
  letters_short = lit≤ tt;
  text_carried = refl;
  text_short = lit≤ tt;
  read_again = refl;
}
are_change_words (Invisible false) keeps = record {
  letters_plain =
      record { is_some = λ e. cc e; no_space = refl; no_colon = refl; no_nul = refl };
  letters_carried = refl;
  letters_short = lit≤ tt;
  text_carried = refl;
  text_short = lit≤ tt;
  read_again = refl;
}
are_change_words (Away None) keeps = record {
  letters_plain =
      record { is_some = λ e. cc e; no_space = refl; no_colon = refl; no_nul = refl };
  letters_carried = refl;
  letters_short = lit≤ tt;
  text_carried = refl;
  text_short = lit≤ tt;
  read_again = refl;
}
are_change_words (Away (Some text)) keeps = record {
  letters_plain =
      record { is_some = λ e. cc e; no_space = refl; no_colon = refl; no_nul = refl };
  letters_carried = refl;
  letters_short = lit≤ tt;
  text_carried = away_carried text keeps;
  text_short = away-fits text keeps;
  read_again = away_again text keeps;
}
