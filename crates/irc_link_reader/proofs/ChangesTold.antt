-- What is told of a change of a channel, as its contract says it.
use Rattle.std.proofs.Common.{◌≡◌, ℕ, Bool, true, false, not, ◌&&◌, ◌||◌, Option, Some, None}
use Rattle.std.proofs.Common.{unwrap_or}
use Rattle.std.specs.Prelude.{⊤}
use Rattle.std.proofs.Common.{Result, Ok, Err, List, [], ◌∷◌, map, if◌then◌else◌, refl, sym, ◌∙◌}
use Rattle.std.proofs.Common.{ap}
use Rattle.std.proofs.lemmas.Bool.{and_from}
use Rattle.irc_batch.specs.declared.close_reason.CloseReason.{CloseReason}
use Rattle.irc_batch.specs.declared.close_reason.CloseReason.TheVariants as reason
use Rattle.irc_names.specs.Names.{is_channel, is_nick, is_server}
use Rattle.irc_modes.specs.declared.modes.ModeChange.{ModeChange}
use Rattle.irc_room.specs.effect.By.{By}
use Rattle.irc_room.specs.effect.By.TheVariants as by
use Rattle.irc_room.specs.effect.Effect.{Effect}
use Rattle.irc_room.specs.effect.Effect.TheVariants.{ChangeModes, SetTopic}
use Rattle.irc_merge.specs.Deeds.{sets, tops}
use Rattle.irc_link_words.specs.Words.{are_changes, are_members_named, changes_of, is_for_channel}
use Rattle.irc_link_words.specs.Words.{are_words, told_changes}
use Rattle.irc_link_reader.specs.declared.reading_channels.Doer.{Doer}
use Rattle.irc_link_reader.specs.declared.reading_channels.Doer.TheVariants as doer
use Rattle.irc_link_reader.specs.Loops.Readings.{channel_change, doer_or_reason, modes_counted}
use Rattle.irc_link_reader.specs.Loops.Readings.{topic_counted}
use Rattle.irc_link_reader.specs.Means.{Checked, change_of, if_there, mode_line, of_either}
use Rattle.irc_link_reader.specs.Means.{topic_line, user_mode_line}
use Rattle.irc_link_reader.specs.Reader.{Reader, may_come}
use Rattle.irc_link_reader.specs.Told.{Judged, Told, a_deed, first_reason, judged, kept_prefix}
use Rattle.irc_link_reader.specs.Told.{told_of, unless_late}
use Rattle.irc_link_reader.specs.declared.deed.Deed.{Deed as Code}
use Rattle.irc_link_reader.specs.Loops.Tellings.{told_found, told_if}

-- ---- whoever changes it

-- what is told of it by one of whom it is known whether it is a server
abbrev told_by : List ℕ → Bool → Effect → Told
told_by name is_one effect = a_deed (kept_prefix (if is_one then Some name else None) effect)

-- who it is
abbrev who_by : List ℕ → Bool → Bool → Result Doer CloseReason
who_by name is_one is_user =
    if is_one then Ok (doer.Server name)
    else (if is_user then Ok (doer.User name) else Err reason.BadName)

module _ (reader : Reader) (name channel : List ℕ) where
  -- what is meant of it
  abbrev change_by : (By → Effect) → Bool → List Effect
  change_by effect is_one =
      if is_one then (if reader.has_far channel then effect by.Home ∷ [] else [])
      else if_there reader (effect (by.User name))

  abbrev topic_of : List ℕ → Result Doer CloseReason → List Told
  topic_of text (Ok who) = topic_counted reader who channel text
  topic_of text (Err given) = []

  topic_by : (text : List ℕ) (who : Doer) (is_one is_user : Bool)
      → Ok who ≡ who_by name is_one is_user
      → topic_counted reader who channel text
      ≡ map (told_by name is_one) (change_by (λ one. SetTopic one channel text) is_one)
  topic_by text who true is_user is = ap (topic_of text) is ∙ far (reader.has_far channel)
    where
      far : (b : Bool) → (if b then a_deed (tops name channel text) ∷ [] else [])
          ≡ map (told_by name true) (if b then SetTopic by.Home channel text ∷ [] else [])
      far true = refl
      far false = refl
  topic_by text who false true is = ap (topic_of text) is
  topic_by text who false false is = cc is

  pub topic-counted : (text : List ℕ) (who : Doer) → Ok who ≡ doer_or_reason name
      → topic_counted reader who channel text
      ≡ map (told_of (Some name)) (change_of reader name channel (λ one. SetTopic one channel text))
  topic-counted text who is = topic_by text who (is_server name) (is_nick name) is

  abbrev modes_of : List ModeChange → Result Doer CloseReason → List Told
  modes_of changes (Ok who) = modes_counted reader who channel changes
  modes_of changes (Err given) = []

  modes_by : (changes : List ModeChange) (who : Doer) (is_one is_user : Bool)
      → Ok who ≡ who_by name is_one is_user
      → modes_counted reader who channel changes
      ≡ map (told_by name is_one) (change_by (λ one. ChangeModes one channel changes) is_one)
  modes_by changes who true is_user is = ap (modes_of changes) is ∙ far (reader.has_far channel)
    where
      far : (b : Bool) → (if b then a_deed (sets name channel changes) ∷ [] else [])
          ≡ map (told_by name true) (if b then ChangeModes by.Home channel changes ∷ [] else [])
      far true = refl
      far false = refl
  modes_by changes who false true is = ap (modes_of changes) is
  modes_by changes who false false is = cc is

  pub modes-counted : (changes : List ModeChange) (who : Doer) → Ok who ≡ doer_or_reason name
      → modes_counted reader who channel changes
      ≡ map (told_of (Some name))
      (change_of reader name channel (λ one. ChangeModes one channel changes))
  modes-counted changes who is = modes_by changes who (is_server name) (is_nick name) is

pub ruleset changes_told = (modes-counted)

-- ---- a line that sets a topic

-- the value of a result, or this
abbrev value_or : {A E : Type 0} → A → Result A E → A
value_or other (Ok value) = value
value_or other (Err refusal) = other

ok_if : {A E : Type 0} (b : Bool) (x y : A) (e : E) → Ok x ≡ (if b then Ok y else Err e)
    → (b ≡ true) × (x ≡ y)
ok_if true x y e is = (refl, ap (value_or x) is)
ok_if false x y e is = cc is

-- what is named is a user or a server
named_so : (name : List ℕ) (who : Doer) (is_one is_user : Bool)
    → Ok who ≡ who_by name is_one is_user → (is_user || is_one) ≡ true
named_so name who true true is = refl
named_so name who true false is = refl
named_so name who false true is = refl
named_so name who false false is = cc is

passes : (j : Judged) → j.parameters ≡ true → j.token ≡ true → j.direction ≡ true → j.names ≡ true
    → j.late ≡ None → first_reason j ≡ Ok j.told
passes j is1 is2 is3 is4 is5 =
    tests j.parameters j.token j.direction j.names j.late is1 is2 is3 is4 is5
  where
    tests : (parameters token direction names : Bool) (late : Option CloseReason)
        → parameters ≡ true → token ≡ true → direction ≡ true → names ≡ true → late ≡ None
        → (if not parameters then Err reason.Parameters
        else (if not token then Err reason.BadToken
        else (if not direction then Err reason.WrongDirection
        else (if not names then Err reason.BadName else unless_late late j.told)))) ≡ Ok j.told
    tests false token direction names late is1 is2 is3 is4 is5 = cc is1
    tests true false direction names late is1 is2 is3 is4 is5 = cc is2
    tests true true false names late is1 is2 is3 is4 is5 = cc is3
    tests true true true false late is1 is2 is3 is4 is5 = cc is4
    tests true true true true (Some given) is1 is2 is3 is4 is5 = cc is5
    tests true true true true None is1 is2 is3 is4 is5 = refl

pub topic_line_told : (reader : Reader) (name : List ℕ) (words more none : List (List ℕ))
    (channel text read_text read_channel : List ℕ) (unit : ⊤) (who : Doer) (told : Option Code)
    → words ≡ channel ∷ more → more ≡ text ∷ none → none ≡ []
    → Ok read_text ≡ (if are_words text then Ok text else Err reason.Parameters)
    → Ok unit ≡ (if may_come reader name then Ok tt else Err reason.WrongDirection)
    → Ok who ≡ doer_or_reason name
    → Ok read_channel ≡ (if is_channel channel then Ok channel else Err reason.BadName)
    → told_if told ≡ topic_counted reader who read_channel read_text
    → told_found (Ok told) ≡ first_reason (judged (Some name) (topic_line reader (Some name) words))
topic_line_told reader name words more none channel text read_text read_channel unit who told
    first second ended texts comes whose channels is =
    let fits = ok_if (are_words text) read_text text reason.Parameters texts in
    let far = ok_if (may_come reader name) unit tt reason.WrongDirection comes in
    let named = ok_if (is_channel channel) read_channel channel reason.BadName channels in
    let line : Judged = judged (Some name) (topic_line reader (Some name) (channel ∷ text ∷ [])) in
    ap Ok (is ∙ (λ i. topic_counted reader who (named.1 i) (fits.1 i))
    ∙ topic-counted reader name channel text who whose)
    ∙ sym (passes line fits.0 refl far.0
    (and_from (is_nick name || is_server name) (is_channel channel)
    (named_so name who (is_server name) (is_nick name) whose) named.0) refl)
    ∙ ap (λ ws. first_reason (judged (Some name) (topic_line reader (Some name) ws)))
    (sym (first ∙ ap (λ ws. channel ∷ ws) (second ∙ ap (λ ws. text ∷ ws) ended)))

-- ---- a line of modes of a channel

-- what is looked at in it, by whether its words are those of some changes
abbrev by_words : Reader → List ℕ → List ℕ → Bool → List ModeChange → Checked
by_words reader name target are changes =
    of_either reader name are (is_channel target && are_members_named changes) target
    (λ doer. ChangeModes doer target changes)

pub for_channel : (reader : Reader) (name target : List ℕ) (words : List (List ℕ))
    → is_for_channel target ≡ true → mode_line reader (Some name) (target ∷ words)
    ≡ by_words reader name target (are_changes words) (changes_of words)
for_channel reader name target words is =
    ap (λ b. if b then by_words reader name target (are_changes words) (changes_of words)
    else user_mode_line reader name target words) is

pub for_user : (reader : Reader) (name target : List ℕ) (words : List (List ℕ))
    → is_for_channel target ≡ false
    → mode_line reader (Some name) (target ∷ words) ≡ user_mode_line reader name target words
for_user reader name target words is =
    ap (λ b. if b then by_words reader name target (are_changes words) (changes_of words)
    else user_mode_line reader name target words) is

pub modes-told : (reader : Reader) (name target : List ℕ) (words : List (List ℕ))
    (changes : List ModeChange) → is_for_channel target ≡ true
    → Some changes ≡ told_changes words → channel_change reader name target changes
    ≡ mode_line reader (Some name) (target ∷ words)
modes-told reader name target words changes is told =
    by_test (are_changes words) (changes_of words) told
    ∙ sym (for_channel reader name target words is)
  where
    by_test : (b : Bool) (made : List ModeChange) → Some changes ≡ (if b then Some made else None)
        → channel_change reader name target changes ≡ by_words reader name target b made
    by_test true made told =
        ap (λ (o : Option (List ModeChange)). channel_change reader name target (unwrap_or o []))
        told
    by_test false made told = cc told
