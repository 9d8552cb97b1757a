-- PASS of a handshake is read as it is written, and its password is kept.
use Rattle.std.proofs.lemmas.Bool.{and_from, not-true}
use Rattle.irc_line.specs.Carried.{IsCarried, is_carried_byte}
use Rattle.irc_line.specs.Lines.{IsLine}
use Rattle.std.proofs.Common.{◌≡◌, ◌≢◌, ℕ, Bool, true, false, cond, not, ◌&&◌, ◌||◌, Option, Some}
use Rattle.std.proofs.Common.{None, Ok, Err, List, [], ◌∷◌, is_some, lit≤, refl, sym, ◌∙◌, ap}
use Rattle.std.proofs.Common.{unwrap_or, if◌then◌else◌, nat_eq}
use Rattle.std.specs.Char.{is_ascii_graphic}
use Rattle.std.specs.Cmp.{first_so, second_so}
use Rattle.std.specs.FinMap.{get, insert}
use Rattle.std.specs.List.{list_all}
use Rattle.std.specs.Option.{option_map_or}
use Rattle.irc_names.specs.Lemmas.PlainFacts.{nat_eq-unlike}
use Rattle.irc_line.specs.Bytes.{begins, has_nul, is_colon, is_space}
use Rattle.irc_line.specs.Messages.{IsPlain, IsPlainWord, line_text, message_of}
use Rattle.irc_line.specs.Reading.{read_of}
use Rattle.irc_names.specs.Names.{starts_without_colon}
use Rattle.irc_link_words.specs.GreetingLines.{pass_parts}
use Rattle.irc_link_words.specs.Openings.{opening_of, pass_opens}
use Rattle.irc_link_words.specs.Passwords.{is_password}
use Rattle.irc_burst.specs.DeedsMeant.{deeds_meant}
use Rattle.irc_burst.specs.HandshakeMeant.{handshake_meant, out_of_place}
use Rattle.irc_stage.specs.Lemmas.Numbers.{get-with, same_number-refl}
use Rattle.irc_stage.specs.View.{End, View}
use Rattle.irc_server.specs.Heard.{heard, of_met, opened, password}
use Rattle.irc_server.specs.LinkServed.{after_heard, line_served}
use Rattle.irc_server.specs.Served.{link_says, served}
use Rattle.irc_readback.specs.Lemmas.LinesReadBack.{command_plain}
use Rattle.irc_items.proofs.Handshake.Greetings.{IsKnownOfHandshakes}

-- ---- a password is a word of a line

no_space : (bytes : List ℕ) → list_all is_ascii_graphic bytes ≡ true
    → list_all (λ b. not (is_space b)) bytes ≡ true
no_space [] all = refl
no_space (byte ∷ bytes) all =
    ap (λ b. not b && list_all (λ b. not (is_space b)) bytes)
    (nat_eq-unlike is_ascii_graphic 0x20 byte refl (first_so (is_ascii_graphic byte) _ all))
    ∙ no_space bytes (second_so (is_ascii_graphic byte) _ all)

no_nul : (bytes : List ℕ) → list_all is_ascii_graphic bytes ≡ true → has_nul bytes ≡ false
no_nul [] all = refl
no_nul (byte ∷ bytes) all =
    ap (λ b. b || has_nul bytes)
    (nat_eq-unlike is_ascii_graphic 0x00 byte refl (first_so (is_ascii_graphic byte) _ all))
    ∙ no_nul bytes (second_so (is_ascii_graphic byte) _ all)

no_colon : (bytes : List ℕ) → starts_without_colon bytes ≡ true → begins is_colon bytes ≡ false
no_colon [] starts = refl
no_colon (byte ∷ bytes) starts = not-true (is_colon byte) starts

some_bytes : (bytes : List ℕ) → starts_without_colon bytes ≡ true → bytes ≢ []
some_bytes [] starts = cc starts
some_bytes (byte ∷ bytes) starts = λ e. cc e

pub password_plain : (word : List ℕ) → is_password word ≡ true → IsPlainWord word
password_plain word is =
    let both = first_so (starts_without_colon word && list_all is_ascii_graphic word) _ is in
    let starts = first_so (starts_without_colon word) _ both in
    let graphic = second_so (starts_without_colon word) _ both in
    record {
      is_some = some_bytes word starts;
      no_space = no_space word graphic;
      no_colon = no_colon word starts;
      no_nul = no_nul word graphic;
    }

graphic_carried : (bytes : List ℕ) → list_all is_ascii_graphic bytes ≡ true → IsCarried bytes
graphic_carried [] all = refl
graphic_carried (byte ∷ bytes) all =
    and_from (is_carried_byte byte) _
    (by (nat_eq byte 0) (nat_eq byte 13) (nat_eq byte 10) (nat_eq-unlike is_ascii_graphic 0x00 byte
    refl graphic) (nat_eq-unlike is_ascii_graphic 0x0D byte refl graphic)
    (nat_eq-unlike is_ascii_graphic 0x0A byte refl graphic))
    (graphic_carried bytes (second_so (is_ascii_graphic byte) _ all))
  where
    graphic : is_ascii_graphic byte ≡ true
    graphic = first_so (is_ascii_graphic byte) _ all

    by : (nul return feed : Bool) → nul ≡ false → return ≡ false → feed ≡ false
        → not (nul || (return || feed)) ≡ true
    by true return feed a b c = cc a
    by false true feed a b c = cc b
    by false false true a b c = cc c
    by false false false a b c = refl

password_carried : (word : List ℕ) → is_password word ≡ true → IsCarried word
password_carried word is =
    graphic_carried word (second_so (starts_without_colon word) _
    (first_so (starts_without_colon word && list_all is_ascii_graphic word) _ is))

-- ---- PASS

module _ (laws : IsKnownOfHandshakes) (word : List ℕ) (is : is_password word ≡ true) where
  pass_plain : IsPlain (pass_parts word)
  pass_plain = record {
    prefix_no_space = refl;
    prefix_no_nul = refl;
    command = command_plain _ _ refl refl refl;
    middle = (
      password_plain word is,
      (command_plain _ _ refl refl refl, (command_plain _ _ refl refl refl, tt)),
    );
    last_no_nul = refl;
    count = lit≤ tt;
  }

  pub pass_is_line : IsLine (line_text (pass_parts word))
  pass_is_line = laws.lines.as_line (pass_parts word) (record {
    sender = refl;
    command = refl;
    command_some = λ e. cc e;
    middle = (password_carried word is, (refl, (refl, tt)));
    last = refl;
  })

  pub pass_is_read : read_of (line_text (pass_parts word)) ≡ Ok (message_of (pass_parts word))
  pass_is_read =
      sym (laws.lines.alone (line_text (pass_parts word)) (Ok (message_of (pass_parts word)))
      (laws.lines.written (pass_parts word) pass_plain (laws.passwords word is)))

  pub pass_opening : (has_password : Bool) → opening_of has_password (message_of (pass_parts word))
      ≡ Some (pass_opens has_password (Some word))
  unfolding opening_of
  pass_opening has_password =
      ap (λ b. Some (pass_opens has_password (if b then Some word else None))) is

  -- where nobody has named itself, and no password has come
  module _ (view : View) (k : ℕ) (end : End) (not_met : end.far ≡ None)
      (first : end.password ≡ None) where
    pub pass_heard : heard view k end (read_of (line_text (pass_parts word))) ≡ password word
    unfolding heard handshake_meant
    pass_heard =
        ap (heard view k end) pass_is_read
        ∙ ap (λ (o : Option (List ℕ)). if is_some o
        then of_met (deeds_meant view.room view.routes k (message_of (pass_parts word)))
        else opened view end (handshake_meant (is_some end.password) view.room view.routes k
        (message_of (pass_parts word)))) not_met
        ∙ ap (λ (o : Option (List ℕ)). opened view end (handshake_meant
        (is_some o) view.room view.routes k (message_of (pass_parts word)))) first
        ∙ ap (λ o. opened view end (unwrap_or o (Err (out_of_place
        (deeds_meant view.room view.routes k (message_of (pass_parts word)))))))
        (pass_opening false)

    abbrev pub with_word : View
    with_word = record view { ends = insert view.ends k (record end { password = Some word }) }

    pub pass_served : get view.ends k ≡ Some end
        → (served view (link_says k (read_of (line_text (pass_parts word))))).state ≡ with_word
    unfolding served
    pass_served is_end =
        ap (λ o. (line_served view k (read_of (line_text (pass_parts word))) o).state) is_end
        ∙ ap (λ what. (after_heard view k what).state) pass_heard
        ∙ ap (λ o. option_map_or (λ (e : End). record view {
          ends = insert view.ends k
              (record e { password = Some word });
        }) o view) is_end

    pub word_kept : get with_word.ends k ≡ Some (record end { password = Some word })
    word_kept =
        get-with view.ends k (record end { password = Some word }) k
        ∙ ap (λ b. cond b (Some (record end { password = Some word })) (get view.ends k))
        (same_number-refl k)
