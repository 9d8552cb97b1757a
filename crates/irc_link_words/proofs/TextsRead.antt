-- Texts and names that keep their limits are kept whole.
use Rattle.std.proofs.Common.{◌≡◌, ◌≤◌, ℕ, true, not, ◌&&◌, if◌then◌else◌, List, [], ◌∷◌, length}
use Rattle.std.proofs.Common.{map, refl, ◌∙◌, ap, arith}
use Rattle.std.specs.Cmp.{first_so, second_so}
use Rattle.std.specs.List.{list_all}
use Rattle.std.proofs.lemmas.Bool.Decides.{nat_tests}
use Rattle.irc_names.specs.Names.{fits}
use Rattle.irc_modes.specs.Modes.{is_nil}
use Rattle.irc_link_words.specs.Words.{is_user_name}
use Rattle.std.proofs.lemmas.List.{take_all}
use Rattle.irc_names.specs.Limits.{max_words, max_real_name, max_user_name}
use Rattle.irc_names.specs.UserTexts.{clean_user, clean_user_byte, cut_real, is_user_byte}
use Rattle.irc_channels.specs.Texts.{cut_words}

pub words-whole : (text : List ℕ) → length text ≤ max_words → cut_words text ≡ text
unfolding cut_words
words-whole text fits = take_all max_words text fits

pub real-whole : (text : List ℕ) → length text ≤ max_real_name → cut_real text ≡ text
unfolding cut_real
real-whole text fits = take_all max_real_name text fits

pub ruleset words_whole = (words-whole)

pub real-kept : (text : List ℕ) → fits max_real_name text ≡ true → cut_real text ≡ text
real-kept text short = real-whole text (grind (arith, nat_tests))

all-clean : (bytes : List ℕ) → list_all is_user_byte bytes ≡ true
    → map clean_user_byte bytes ≡ bytes
all-clean [] so = refl
all-clean (b ∷ bytes) so =
    ap (λ t. (if t then b else 95) ∷ map clean_user_byte bytes) (first_so (is_user_byte b) _ so)
    ∙ ap (λ bs. b ∷ bs) (all-clean bytes (second_so (is_user_byte b) _ so))

pub user-kept : (word : List ℕ) → is_user_name word ≡ true → clean_user word ≡ word
unfolding clean_user
user-kept word so =
    let some = not (is_nil word) in
    let clean = list_all is_user_byte word in
    let front = first_so (some && clean) _ so in
    let short : fits max_user_name word ≡ true = second_so (some && clean) _ so in
    ap (map clean_user_byte) (take_all max_user_name word (grind (arith, nat_tests)))
    ∙ all-clean word (second_so some clean front)

pub ruleset names_whole = (user-kept, real-kept)
