-- What goes on as it came.
use Rattle.std.proofs.Common.{◌≡◌, ◌⊎◌, inl, inr, ℕ, Bool, true, false, ◌&&◌, ◌||◌, Some, None}
use Rattle.std.proofs.Common.{Result, Ok, Err, List, [], ◌∷◌, ◌++◌, map, refl, sym, ◌∙◌, ap, subst}
use Rattle.std.proofs.Common.{codes, length, nat_le, append-nil, append_assoc, nat_eq}
use Rattle.std.proofs.Common.{if◌then◌else◌}
use Rattle.std.proofs.lemmas.Bool.Decides.{Decides-eqb}
use Rattle.std.proofs.lemmas.List.Splits.{join_with_byte-slice_split}
use Rattle.std.proofs.lemmas.Slice.Eq.{bytes_eq-Decides}
use Rattle.std.specs.List.{flat_map, join_with_byte, list_all, slice_split, AllByRecursion}
use Rattle.std.specs.Cmp.Lexicographic.{pointwise_decides}
use Rattle.std.specs.Cmp.{second_so}
use Rattle.irc_batch.specs.declared.close_reason.CloseReason.{CloseReason}
use Rattle.irc_line.specs.Messages.{Parsed, message_of}
use Rattle.irc_channels.specs.declared.flags.Flags.{Flags}
use Rattle.irc_modes.specs.ModeWritten.{changes_written}
use Rattle.irc_names.specs.Names.{is_channel, is_nick, is_server}
use Rattle.irc_room.specs.effect.By.{By}
use Rattle.irc_room.specs.effect.By.TheVariants as by
use Rattle.irc_room.specs.effect.Effect.{Effect}
use Rattle.irc_room.specs.effect.Effect.TheVariants.{ChangeModes, SetTopic}
use Rattle.irc_room.specs.Room.{Room}
use Rattle.irc_routes.specs.Known.{Known}
use Rattle.irc_link_reader.specs.Means.{Checked, first_fault, if_there, of_either, user_mode_line}
use Rattle.irc_link_reader.specs.Reader.{Reader, reader_of, may_come, is_behind_link}
use Rattle.irc_link_words.specs.declared.fault.WireFault.{WireFault}
use Rattle.irc_link_words.specs.Words.{are_changes, are_members_named, are_words, changes_of}
use Rattle.irc_link_words.specs.Words.{is_mode_word, keeps_word}
use Rattle.irc_merge.specs.Bursts.{members_a_line}
use Rattle.irc_merge.specs.BurstRead.{brought, new_members}
use Rattle.irc_merge.specs.Deeds.{Deed, sets, tops}
use Rattle.irc_burst_lines.specs.DeedLines.{deed_parts, member_text, members_text, more_text}
use Rattle.irc_burst.specs.DeedsMeant.{Told, a_deed, deeds_meant, first_reason, effects_told}
use Rattle.irc_burst.specs.DeedsMeant.{collided, wire_reason, members_of, member_of, has_mark}
use Rattle.irc_burst.specs.DeedsMeant.{without_mark, is_comma, as_stored, at_mark, plus_mark}
use Rattle.irc_burst.specs.GoingOn.{line_from, IsWrittenAs, ModesGoOn, TopicsGoOn, MembersGoOn}

-- ---- words of a MODE

rewritten : (words : List (List ℕ)) → are_changes words ≡ true
    → changes_written (changes_of words) ≡ words
rewritten words taken =
    (pointwise_decides bytes_eq-Decides (changes_written (changes_of words)) words).0
    (second_so (list_all keeps_word (changes_of words)) _
    (second_so (list_all is_mode_word words) _ taken))

-- ---- lines that tell of effects

refused : (given : CloseReason) (told : List Told) → Err given ≡ Ok told → ⊥
refused given told is = cc is

module _ (own : List ℕ) (room : Room) (server : List ℕ) where
  -- what is told of some effects by a server, or else by anybody
  abbrev told_by : Bool → Result (List Effect) WireFault → Result (List Told) CloseReason
  told_by is_one (Ok effects) =
      Ok (map a_deed (flat_map (collided own room (if is_one then Some server else None)) effects))
  told_by is_one (Err given) = Err (wire_reason given)

  told_so : (result : Result (List Effect) WireFault)
      → effects_told own room (Some server) result ≡ told_by (is_server server) result
  told_so (Ok effects) = refl
  told_so (Err given) = refl

  -- a line that is taken had its parameters, and tells of its effect or of nothing
  taken : (parameters direction names far : Bool) (effect : Effect) (told : List Told)
      → told_by true (first_fault (record {
        parameters = parameters;
        token = true;
        direction = direction;
        names = names;
        effects = if far then effect ∷ [] else [];
      }))
      ≡ Ok told
      → (parameters ≡ true) × ((told ≡ [])
      ⊎ (told ≡ map a_deed (flat_map (collided own room (Some server)) (effect ∷ []))))
  taken false direction names far effect told is = absurd (refused _ told is)
  taken true false names far effect told is = absurd (refused _ told is)
  taken true true false far effect told is = absurd (refused _ told is)
  taken true true true false effect told is = (refl, inl (cc is))
  taken true true true true effect told is = (refl, inr (cc is))

-- what is told is nothing, or one deed
goes_on : (message : Parsed) (writer : Room) (others : Known) (deed : Deed) (told : List Told)
    → message_of (deed_parts writer others deed) ≡ message → (told ≡ []) ⊎ (told ≡ a_deed deed ∷ [])
    → AllByRecursion (IsWrittenAs message writer others) told
goes_on message writer others deed told written (inl is) =
    subst (AllByRecursion (IsWrittenAs message writer others)) (sym is) tt
goes_on message writer others deed told written (inr is) =
    subst (AllByRecursion (IsWrittenAs message writer others)) (sym is) (written, tt)

module _ (room : Room) (known : Known) (link : ℕ) (server : List ℕ)
    (rule : is_server server ≡ true) where
  abbrev reader : Reader
  reader = reader_of room known link

  -- what is looked at in a line of a server, or of a user where it is none
  abbrev either : Bool → Bool → Bool → List ℕ → (By → Effect) → Checked
  either is_one parameters names channel effect = record {
    parameters = parameters;
    token = true;
    direction = may_come reader server;
    names = (is_nick server || is_one) && names;
    effects = if is_one then (if reader.has_far channel then effect by.Home ∷ [] else [])
        else if_there reader (effect (by.User server));
  }

  of_it : (parameters names : Bool) (channel : List ℕ) (effect : By → Effect) (told : List Told)
      → effects_told known.name room (Some server)
      (first_fault (of_either reader server parameters names channel effect)) ≡ Ok told
      → (parameters ≡ true) × ((told ≡ []) ⊎ (told ≡ map a_deed
      (flat_map (collided known.name room (Some server)) (effect by.Home ∷ []))))
  of_it parameters names channel effect told is =
      taken known.name room server parameters (may_come reader server)
      ((is_nick server || true) && names) (reader.has_far channel) (effect by.Home) told
      (sym (ap (λ b. told_by known.name room server b
      (first_fault (either b parameters names channel effect))) rule)
      ∙ sym (told_so known.name room server
      (first_fault (of_either reader server parameters names channel effect)))
      ∙ is)

pub topics_go_on : TopicsGoOn
unfolding deeds_meant
topics_go_on room known link server channel topic rule told writer others is =
    let line = line_from (codes "TOPIC") server (channel ∷ topic ∷ []) in
    goes_on line writer others (tops server channel topic) told refl
    (of_it room known link server rule (are_words topic) (is_channel channel) channel
    (λ doer. SetTopic doer channel topic) told is).1

pub modes_go_on : ModesGoOn
unfolding deeds_meant
modes_go_on room known link server channel words rule target told writer others is =
    let changes = changes_of words in
    let reader = reader_of room known link in
    let doing : By → Effect = λ doer. ChangeModes doer channel changes in
    let names = is_channel channel && are_members_named changes in
    let read = of_it room known link server rule (are_changes words) names channel doing told
    (sym (ap (λ b. effects_told known.name room (Some server)
    (first_fault (if b then of_either reader server (are_changes words) names channel doing
    else user_mode_line reader server channel words))) target)
    ∙ is) in
    goes_on (line_from (codes "MODE") server (channel ∷ words)) writer others
    (sets server channel changes) told
    (ap (λ ps. line_from (codes "MODE") server (channel ∷ ps))
    (append-nil (changes_written changes) ∙ rewritten words read.0))
    read.1

-- ---- members

-- a mark that a word has, and the word without it
unmarked : (mark : ℕ) (word : List ℕ) → (if has_mark mark word then mark ∷ [] else [])
    ++ without_mark mark word ≡ word
unmarked mark [] = refl
unmarked mark (first ∷ rest) = by (nat_eq first mark) refl
  where
    by : (b : Bool) → nat_eq first mark ≡ b
        → (if b then mark ∷ [] else []) ++ (if b then rest else first ∷ rest) ≡ first ∷ rest
    by true is = ap (λ byte. byte ∷ rest) (sym ((Decides-eqb first mark).0 is))
    by false is = refl

-- a word of an NJOIN is written as it was read
word_again : (word : List ℕ) → member_text (member_of word) ≡ word
word_again word =
    let operator : List ℕ = if has_mark at_mark word then at_mark ∷ [] else [] in
    let rest = without_mark at_mark word in
    let voiced : List ℕ = if has_mark plus_mark rest then plus_mark ∷ [] else [] in
    append_assoc operator voiced (without_mark plus_mark rest)
    ∙ ap (λ t. operator ++ t) (unmarked plus_mark rest) ∙ unmarked at_mark word

-- words with a comma between each two
abbrev more_words : List (List ℕ) → List ℕ
more_words words = flat_map (λ word. codes "," ++ word) words

abbrev joined : List (List ℕ) → List ℕ
joined [] = []
joined (word ∷ words) = word ++ more_words words

more_again : (words : List (List ℕ)) → more_text (map member_of words) ≡ more_words words
more_again [] = refl
more_again (word ∷ words) = λ i. (codes "," ++ word_again word i) ++ more_again words i

members_again : (words : List (List ℕ)) → members_text (map member_of words) ≡ joined words
members_again [] = refl
members_again (word ∷ words) = λ i. word_again word i ++ more_again words i

joined_again : (words : List (List ℕ)) → joined words ≡ join_with_byte 0x2C words
joined_again [] = refl
joined_again (word ∷ []) = append-nil word
joined_again (word ∷ next ∷ words) = ap (λ t. word ++ (0x2C ∷ t)) (joined_again (next ∷ words))

text_again : (text : List ℕ) → members_text (members_of text) ≡ text
text_again text =
    let words = slice_split is_comma text in
    members_again words ∙ joined_again words ∙ join_with_byte-slice_split 0x2C text

-- what is looked at in a line of members, and what is told if all is so
members_taken : (parameters direction names : Bool) (deeds : List Deed) (told : List Told)
    → first_reason (record {
      parameters = parameters;
      token = true;
      direction = direction;
      names = names;
      late = None;
      told = map a_deed deeds;
    }) ≡ Ok told → told ≡ map a_deed deeds
members_taken false direction names deeds told is = cc is
members_taken true false names deeds told is = cc is
members_taken true true false deeds told is = cc is
members_taken true true true deeds told is = cc is

pub members_go_on : MembersGoOn
unfolding deeds_meant
members_go_on room known link server channel text all told writer others is =
    let line = line_from (codes "NJOIN") server (channel ∷ text ∷ []) in
    let reader = reader_of room known link in
    let members = map (as_stored room)
    (new_members (is_behind_link known link) room channel (members_of text)) in
    subst (AllByRecursion (IsWrittenAs line writer others))
    (sym (members_taken (nat_le (length (members_of text)) members_a_line)
    (may_come reader server && true)
    (is_server server && (is_channel channel && list_all (λ (member : List ℕ × Flags).
    is_nick member.0) (members_of text))) (brought server channel members)
    told is))
    (by members (ap members_text all ∙ text_again text))
  where
    by : (members : List (List ℕ × Flags)) → members_text members ≡ text → AllByRecursion
        (IsWrittenAs (line_from (codes "NJOIN") server (channel ∷ text ∷ [])) writer others)
        (map a_deed (brought server channel members))
    by [] again = tt
    by (member ∷ members) again =
        (ap (λ t. line_from (codes "NJOIN") server (channel ∷ t ∷ [])) again, tt)
