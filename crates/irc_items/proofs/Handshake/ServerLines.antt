-- A line by which a linked server tells of another is read as it is written.
use Rattle.std.proofs.Common.{◌≡◌, ℕ, ◌+◌, ◌≤◌, true, ◌&&◌, Some, None, Ok, List, [], ◌∷◌, codes}
use Rattle.std.proofs.Common.{decimal, is_none, is_some, lit≤, nat_eq, nat_lt, refl, sym, ◌∙◌, ap}
use Rattle.std.proofs.Common.{subst, if◌then◌else◌}
use Rattle.std.specs.Cmp.{first_so}
use Rattle.std.specs.List.{list_all}
use Rattle.std.specs.Option.{option_map_or}
use Rattle.std.proofs.lemmas.Bool.{and_from}
use Rattle.irc_line.specs.Messages.{IsPlain, Written, line_text, message_of}
use Rattle.irc_line.specs.Reading.{read_of}
use Rattle.irc_names.specs.Names.{IsServer, is_nick, is_server}
use Rattle.irc_link_words.specs.Peers.{not_taken}
use Rattle.irc_names.specs.Digits.{number_of}
use Rattle.irc_routes.specs.Info.{IsInfo, is_info, is_text_byte}
use Rattle.irc_routes.specs.Known.{Known, distance_of, token_in}
use Rattle.irc_burst.specs.DeedsMeant.{a_server, deeds_meant, is_next_distance}
use Rattle.irc_burst.specs.HandshakeMeant.{handshake_meant}
use Rattle.irc_burst_lines.specs.DeedLines.{server_parts}
use Rattle.irc_burst_lines.specs.Lemmas.WholeLines.{server_fits}
use Rattle.irc_link_reader.specs.Reader.{Reader, reader_of, is_behind_link, may_come}
use Rattle.irc_link_words.specs.Numbers.{is_number, max_number}
use Rattle.irc_link_writer.specs.Written.{next_distance, written_token}
use Rattle.irc_stage.specs.View.{End, View}
use Rattle.irc_server.specs.Heard.{heard, of_met, opened, tells}
use Rattle.irc_readback.specs.Lemmas.LinesReadBack.{command_plain, from_plain}
use Rattle.irc_readback.specs.Lemmas.NumberText.{number_read, number_taken}
use Rattle.irc_follow.specs.Lemmas.Neighbours.{IsKnownOfLines}
use Rattle.irc_follow.specs.Lemmas.SaidGainToldOn.{four_so, number_plain, server_so, text_no_nul}

-- a server as another writes of it, with the numbers that it writes
pub record IsWritten (writer : Known) (uplink name words : List ℕ) (links ours : ℕ) : Type 0 where
  pub uplink_named : IsServer uplink
  pub named : IsServer name
  pub described : IsInfo words
  pub distance : next_distance writer name ≡ links
  pub number : written_token writer name ≡ ours
  pub distance_least : 1 ≤ links
  pub distance_most : links ≤ max_number
  pub number_least : 1 ≤ ours
  pub number_most : ours ≤ max_number

-- a reader to whom it is new, and who knows the server that it is linked to behind that link
pub record IsNewTo (view : View) (k : ℕ) (uplink name : List ℕ) (links ours : ℕ) : Type 0 where
  pub further : option_map_or (λ far. nat_eq links (far + 1))
      (distance_of view.routes uplink) true ≡ true
  pub not_last : nat_lt links max_number ≡ true
  pub free : token_in view.routes k ours ≡ None
  pub behind : is_behind_link view.routes k uplink ≡ true
  pub taken : not_taken view.routes name ≡ None

module _ (known : IsKnownOfLines) (writer : Known) (uplink name words : List ℕ) (links ours : ℕ)
    (is : IsWritten writer uplink name words links ours)
    (view : View) (k : ℕ) (new : IsNewTo view k uplink name links ours) where
  abbrev parts : Written
  parts = server_parts writer uplink name words

  abbrev reader : Reader
  reader = reader_of view.room view.routes k

  distance_least : 1 ≤ next_distance writer name
  distance_least = subst (λ n. 1 ≤ n) (sym is.distance) is.distance_least

  distance_most : next_distance writer name ≤ max_number
  distance_most = subst (λ n. n ≤ max_number) (sym is.distance) is.distance_most

  number_least : 1 ≤ written_token writer name
  number_least = subst (λ n. 1 ≤ n) (sym is.number) is.number_least

  number_most : written_token writer name ≤ max_number
  number_most = subst (λ n. n ≤ max_number) (sym is.number) is.number_most

  distance_read : number_of (decimal (next_distance writer name)) ≡ links
  distance_read = number_read (next_distance writer name) distance_most ∙ is.distance

  number_back : number_of (decimal (written_token writer name)) ≡ ours
  number_back = number_read (written_token writer name) number_most ∙ is.number

  plain : IsPlain parts
  plain = from_plain uplink (codes "SERVER") (name ∷ decimal (next_distance writer name) ∷ decimal
      (written_token writer name) ∷ []) (Some words)
      (known.names.server uplink is.uplink_named).plain (command_plain _ _ refl refl refl) (
        (known.names.server name is.named).plain,
        (
          number_plain (next_distance writer name) distance_least distance_most,
          (number_plain (written_token writer name) number_least number_most, tt),
        ),
      )
      (text_no_nul words (first_so (list_all is_text_byte words) _ is.described)) (lit≤ tt)

  is_read : read_of (line_text parts) ≡ Ok (message_of parts)
  is_read = sym (known.alone (line_text parts) (Ok (message_of parts))
      (known.written parts plain (server_fits writer uplink name words
      (record {
        uplink_named = is.uplink_named;
        named = is.named;
        described = is.described;
        distance = distance_most;
        number = number_most;
      }))))

  comes : may_come reader uplink ≡ true
  comes =
      ap (λ b. if b then is_behind_link view.routes k uplink
      else (if is_nick uplink then option_map_or (is_behind_link view.routes k)
      (reader.home uplink) true else true)) is.uplink_named
      ∙ new.behind

  next_so : is_next_distance reader uplink links ≡ true
  next_so =
      and_from (option_map_or (λ far. nat_eq links (far + 1)) (distance_of view.routes uplink) true)
      (nat_lt links max_number) new.further new.not_last

  meant : deeds_meant view.room view.routes k (message_of parts)
      ≡ Ok (a_server uplink name links ours words ∷ [])
  unfolding deeds_meant
  meant =
      server_so
      (is_number (decimal (next_distance writer name))
      && is_number (decimal (written_token writer name)) && is_info words
      && is_next_distance reader uplink (number_of (decimal (next_distance writer name))))
      (is_none (token_in view.routes k (number_of (decimal (written_token writer name)))))
      (may_come reader uplink) (is_server uplink && is_server name)
      (not_taken view.routes name)
      (a_server uplink name (number_of (decimal (next_distance writer name)))
      (number_of (decimal (written_token writer name))) words ∷ [])
      (four_so (is_number (decimal (next_distance writer name)))
      (is_number (decimal (written_token writer name))) (is_info words) _
      (number_taken (next_distance writer name) distance_least distance_most)
      (number_taken (written_token writer name) number_least number_most) is.described
      (ap (is_next_distance reader uplink) distance_read ∙ next_so))
      (ap (λ n. is_none (token_in view.routes k n)) number_back ∙ ap is_none new.free) comes
      (and_from (is_server uplink) (is_server name) is.uplink_named is.named) new.taken
      ∙ ap (λ n. Ok (a_server uplink name n (number_of (decimal (written_token writer name))) words
      ∷ [])) distance_read
      ∙ ap (λ n. Ok (a_server uplink name links n words ∷ [])) number_back

  pub server_heard : (end : End) → is_some end.far ≡ true → heard view k end
      (read_of (line_text parts)) ≡ tells (a_server uplink name links ours words ∷ [])
  unfolding heard
  server_heard end met =
      ap (heard view k end) is_read
      ∙ ap (λ b. if b then of_met (deeds_meant view.room view.routes k (message_of parts))
      else opened view end
      (handshake_meant (is_some end.password) view.room view.routes k (message_of parts))) met
      ∙ ap of_met meant
