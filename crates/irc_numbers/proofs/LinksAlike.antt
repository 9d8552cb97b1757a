-- What happens by a link leaves servers that are alike so.
use Rattle.std.proofs.Common.{◌≡◌, ℕ, Bool, true, false, is_none, Option, Some, None, Result, Ok}
use Rattle.std.proofs.Common.{Err, List, [], ◌∷◌, ◌++◌, codes, find, nat_eq, refl, sym, ◌∙◌, ap}
use Rattle.std.proofs.Common.{subst, option_map, unwrap_or, if◌then◌else◌}
use Rattle.std.proofs.lemmas.Bool.{eqb-true}
use Rattle.std.specs.FinMap.{get}
use Rattle.std.specs.Option.{option_map_or}
use Rattle.irc_line.specs.declared.reading.LineFault.{LineFault}
use Rattle.irc_line.specs.Messages.{Parsed, Written, text}
use Rattle.irc_batch.specs.Batches.{end_of_link}
use Rattle.irc_batch.specs.declared.close_reason.CloseReason.{CloseReason}
use Rattle.irc_batch.specs.declared.close_reason.CloseReason.TheVariants as reason
use Rattle.irc_link_words.specs.GreetingLines.{from_nobody, pass_parts}
use Rattle.irc_burst.specs.DeedsMeant.{a_server}
use Rattle.irc_burst_lines.specs.BurstLines.{burst_parts}
use Rattle.irc_stage.specs.View.{End, KnownPeer, View, is_named, password_for, with_end}
use Rattle.irc_stage.specs.EffectTold.{in_silence, with_sent}
use Rattle.irc_stage.specs.Linked.{with_far}
use Rattle.irc_server.specs.DeedTold.{link_lost, told_by}
use Rattle.irc_server.specs.Heard.{Heard, ignored, closes, password, meets, tells, heard}
use Rattle.irc_server.specs.LinkServed.{after_heard, line_served, link_opened, met_by, on_link}
use Rattle.irc_server.specs.LinkServed.{opening_parts, owed_by, owes}
use Rattle.irc_numbers.specs.Alike.{AreAlike, AreApart, IsAmong, Numbers}
use Rattle.irc_numbers.specs.ServedAlike.{ArePutOutAlike, AreServedAlike, client_part, link_part}
use Rattle.irc_numbers.proofs.DeedsAlike.{all_told_alike, lost_alike, told_by_alike}
use Rattle.irc_numbers.proofs.Clients.{silent_alike}
use Rattle.irc_numbers.proofs.Effects.{end_at, known_of, then_put}
use Rattle.irc_numbers.proofs.EndsAlike.{far_alike, opened_alike, password_alike}
use Rattle.irc_numbers.proofs.KnownAlike.{burst_same}
use Rattle.irc_numbers.proofs.Numbers.{same_one}
use Rattle.irc_numbers.proofs.Meaning.{lines_are_heard_alike}

-- ---- what is put out on one link

none_to_client : (link conn : ℕ) (lines : List Written) → client_part conn (on_link link lines) ≡ []
none_to_client link conn [] = refl
none_to_client link conn (parts ∷ lines) = none_to_client link conn lines

module _ (numbers : Numbers) (apart : AreApart numbers) (place conn : ℕ)
    (is_end : numbers.link place ≡ Some conn) where
  -- a link is this one in both, or in neither
  is_this : (p q : ℕ) → numbers.link p ≡ Some q → nat_eq conn q ≡ nat_eq place p
  is_this p q is = sym (same_one numbers.link apart.links p q is place conn is_end)

  lines_on : (p q : ℕ) → numbers.link p ≡ Some q → (lines : List Written)
      → link_part q (on_link conn lines) ≡ link_part p (on_link place lines)
  lines_on p q is [] = refl
  lines_on p q is (parts ∷ lines) =
      λ i. (if is_this p q is i then Ok (text parts) ∷ [] else []) ++ lines_on p q is lines i

  -- a number that is no link's is another
  another : (number : ℕ) → (IsAmong numbers.link number → ⊥) → nat_eq conn number ≡ false
  another number none = by (nat_eq conn number) refl
    where
      by : (b : Bool) → nat_eq conn number ≡ b → b ≡ false
      by true one = absurd
          (none (record { number = place; is = is_end ∙ ap Some (eqb-true conn number one) }))
      by false two = refl

  none_on : (number : ℕ) → (IsAmong numbers.link number → ⊥) → (lines : List Written)
      → link_part number (on_link conn lines) ≡ []
  none_on number none [] = refl
  none_on number none (parts ∷ lines) = λ i.
      (if another number none i then Ok (text parts) ∷ [] else []) ++ none_on number none lines i

  on_link_alike : (lines : List Written)
      → ArePutOutAlike numbers (on_link conn lines) (on_link place lines)
  on_link_alike lines = record {
    to_clients = λ client number is. none_to_client conn number lines
        ∙ sym (none_to_client place client lines);
    on_links = λ p q is. lines_on p q is lines;
    to_no_other = λ number none. none_to_client conn number lines;
    on_no_other = λ number none. none_on number none lines;
  }

  end_alike : (why : CloseReason)
      → ArePutOutAlike numbers (end_of_link conn why ∷ []) (end_of_link place why ∷ [])
  end_alike why = record {
    to_clients = λ client number is. refl;
    on_links = λ p q is. ap (λ b. (if b then Err why ∷ [] else []) ++ []) (is_this p q is);
    to_no_other = λ number none. refl;
    on_no_other =
        λ number none. ap (λ b. (if b then Err why ∷ [] else []) ++ []) (another number none);
  }

  -- ---- what an end says

  module _ (own other : View) (alike : AreAlike numbers own other) where
    password_same : (name : List ℕ) → password_for other name ≡ password_for own name
    password_same name = ap (λ (peers : List KnownPeer).
        option_map (λ (peer : KnownPeer). peer.password) (find (is_named name) peers)) alike.peers

    opening_same : (name : List ℕ) → opening_parts other name ≡ opening_parts own name
    opening_same name = λ i.
        pass_parts (unwrap_or (password_same name i) [])
        ∷ from_nobody (codes "SERVER") (alike.name i ∷ codes "1" ∷ codes "1" ∷ [])
        (Some (alike.about i).info) ∷ []

    burst_alike : burst_parts other.room other.routes place ≡ burst_parts own.room own.routes conn
    burst_alike =
        ap (λ room. burst_parts room other.routes place) alike.room
        ∙ burst_same numbers own.routes other.routes
        (known_of numbers own other alike) apart place conn is_end own.room

    owed_same : (name : List ℕ) (end : End)
        → owed_by other place name end ≡ owed_by own conn name end
    owed_same name end =
        λ i. (if is_none end.starts then opening_same name i else []) ++ burst_alike i

    owes_same : (name : List ℕ) → owes other place name ≡ owes own conn name
    owes_same name =
        ap (λ o. option_map_or (owed_by other place name) o [])
        (end_at numbers own other alike place conn is_end) ∙ by (get own.ends conn)
      where
        by : (o : Option End) → option_map_or (owed_by other place name) o []
            ≡ option_map_or (owed_by own conn name) o []
        by None = refl
        by (Some end) = owed_same name end

    -- lines on this link alone, which are the same
    said_alike : (mine theirs : View) → AreAlike numbers mine theirs → (lines said : List Written)
        → said ≡ lines → AreServedAlike numbers (with_sent (on_link conn lines) (in_silence mine))
        (with_sent (on_link place said) (in_silence theirs))
    said_alike mine theirs is lines said same =
        subst (λ ls. AreServedAlike numbers (with_sent (on_link conn lines) (in_silence mine))
        (with_sent (on_link place ls) (in_silence theirs))) (sym same)
        (then_put numbers (in_silence mine) (in_silence theirs) (silent_alike numbers mine theirs
        is) mine theirs is (on_link conn lines) (on_link place lines)
        (on_link_alike lines))

    ended_alike : (why : CloseReason)
        → AreServedAlike numbers (with_sent (end_of_link conn why ∷ []) (in_silence own))
        (with_sent (end_of_link place why ∷ []) (in_silence other))
    ended_alike why =
        then_put numbers (in_silence own) (in_silence other)
        (silent_alike numbers own other alike) own other alike (end_of_link conn why ∷ [])
        (end_of_link place why ∷ []) (end_alike why)

    -- ---- it is opened

    pub link_opened_alike : (starts : Option (List ℕ))
        → AreServedAlike numbers (link_opened own conn starts) (link_opened other place starts)
    link_opened_alike None =
        silent_alike numbers _ _ (opened_alike numbers own other alike apart place conn is_end None)
    link_opened_alike (Some name) = by (is_none (password_for own name))
        (is_none (password_for other name)) (ap is_none (password_same name))
      where
        by : (a b : Bool) → b ≡ a
            → AreServedAlike numbers
            (if a then with_sent (end_of_link conn reason.UnknownPeer ∷ []) (in_silence own)
            else with_sent (on_link conn (opening_parts own name))
            (in_silence (with_end conn (Some name) own)))
            (if b then with_sent (end_of_link place reason.UnknownPeer ∷ []) (in_silence other)
            else with_sent (on_link place (opening_parts other name))
            (in_silence (with_end place (Some name) other)))
        by true true same = ended_alike reason.UnknownPeer
        by false false same =
            said_alike _ _ (opened_alike numbers own other alike apart place conn is_end
            (Some name)) (opening_parts own name) (opening_parts other name)
            (opening_same name)
        by true false same = cc same
        by false true same = cc same

    -- ---- a line comes by it

    met_alike : (name info : List ℕ)
        → AreServedAlike numbers (met_by conn name info own) (met_by place name info other)
    met_alike name info =
        subst
        (λ near. AreServedAlike numbers (met_by conn name info own)
        (told_by place (a_server near name 1 1 info) (with_sent
        (on_link place (owes other place name)) (in_silence (with_far place name other)))))
        (sym alike.name)
        (told_by_alike numbers apart place conn is_end (a_server own.routes.name name 1 1 info) _ _
        (said_alike _ _ (far_alike numbers own other alike apart place conn is_end name)
        (owes own conn name) (owes other place name) (owes_same name)))

    heard_alike : (it : Heard)
        → AreServedAlike numbers (after_heard own conn it) (after_heard other place it)
    heard_alike ignored = silent_alike numbers own other alike
    heard_alike (closes why) = lost_alike numbers apart place conn is_end _ _ (ended_alike why)
    heard_alike (password word) = silent_alike numbers _ _
        (password_alike numbers own other alike apart place conn is_end word)
    heard_alike (meets name info) = met_alike name info
    heard_alike (tells told) = all_told_alike numbers apart place conn is_end told (in_silence own)
        (in_silence other) (silent_alike numbers own other alike)

    pub line_served_alike : (read : Result Parsed LineFault)
        → AreServedAlike numbers (line_served own conn read (get own.ends conn))
        (line_served other place read (get other.ends place))
    line_served_alike read =
        subst (λ o. AreServedAlike numbers (line_served own conn read (get own.ends conn))
        (line_served other place read o))
        (sym (end_at numbers own other alike place conn is_end)) (by (get own.ends conn))
      where
        by : (o : Option End)
            → AreServedAlike numbers (line_served own conn read o) (line_served other place read o)
        by None = silent_alike numbers own other alike
        by (Some end) =
            subst (λ it. AreServedAlike numbers (after_heard own conn (heard own conn end read))
            (after_heard other place it))
            (sym (lines_are_heard_alike numbers own other place conn end read apart alike is_end))
            (heard_alike (heard own conn end read))

    pub link_lost_alike : AreServedAlike numbers (link_lost conn (in_silence own))
        (link_lost place (in_silence other))
    link_lost_alike = lost_alike numbers apart place conn is_end (in_silence own) (in_silence other)
        (silent_alike numbers own other alike)
