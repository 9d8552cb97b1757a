-- That the network has a server more goes on to each other neighbour as a line that says it there.
use Rattle.std.proofs.Common.{◌≡◌, ◌≢◌, inl, ℕ, ◌+◌, ◌<◌, ◌≤◌, suc, Bool, true, false, ◌&&◌, ◌||◌}
use Rattle.std.proofs.Common.{Option, Some, None, Ok, List, [], ◌∷◌, ◌++◌, codes, decimal, is_none}
use Rattle.std.proofs.Common.{length, lit≤, arith, nat_eq, nat_lt, refl, sym, ◌∙◌, ap, subst, cond}
use Rattle.std.proofs.Common.{unwrap_or, if◌then◌else◌}
use Rattle.std.proofs.lemmas.Bool.{eq-eqb, and_from}
use Rattle.std.proofs.lemmas.Bool.Decides.{nat_tests}
use Rattle.std.specs.Cmp.{first_so, second_so}
use Rattle.std.specs.FinMap.{get}
use Rattle.std.specs.List.{cons_option, list_all}
use Rattle.std.specs.Option.{option_map_or}
use Rattle.std.proofs.Math.Bool.{or-true}
use Rattle.irc_names.specs.Lemmas.PlainFacts.{nat_eq-unlike}
use Rattle.irc_batch.specs.declared.close_reason.CloseReason.{CloseReason}
use Rattle.irc_batch.specs.declared.close_reason.CloseReason.TheVariants as reason
use Rattle.irc_line.specs.Bytes.{has_nul}
use Rattle.irc_line.specs.Messages.{IsPlain, IsPlainWord, Written, line_text, message_of, text}
use Rattle.irc_line.specs.Reading.{read_of}
use Rattle.irc_names.specs.Names.{IsServer, is_server}
use Rattle.irc_link_words.specs.Peers.{not_taken}
use Rattle.irc_merge.specs.Deeds.{gains}
use Rattle.irc_names.specs.Digits.{number_of}
use Rattle.irc_relay.specs.Links.{Name, OneWay, forth, return, same, toward, distance, AreLinked}
use Rattle.irc_relay.specs.Relay.{TakesFrom}
use Rattle.irc_relay.specs.Lemmas.TellingNames.{Telling, alike, unlike, tell, same_unless}
use Rattle.irc_relay.specs.Lemmas.TellingNames.{same_when}
use Rattle.irc_relay.specs.Lemmas.NextHops.{distance_back, linked_other, next_hop, one_way}
use Rattle.irc_relay.specs.Lemmas.NextHops.{toward_self}
use Rattle.irc_relay.specs.Lemmas.ShortWays.{ways_fit_names}
use Rattle.irc_routes.specs.Info.{IsInfo, is_info, is_text_byte}
use Rattle.irc_routes.specs.Known.{Known, distance_of, is_full, token_in, token_out}
use Rattle.irc_routes.specs.Limits.{max_servers}
use Rattle.irc_burst.specs.DeedsMeant.{Told, a_server, deeds_meant, first_reason, is_next_distance}
use Rattle.irc_burst_lines.specs.DeedLines.{server_parts}
use Rattle.irc_burst_lines.specs.Lemmas.WholeLines.{server_fits}
use Rattle.irc_link_reader.specs.Reader.{Reader, may_come}
use Rattle.irc_link_words.specs.Numbers.{is_number, max_number}
use Rattle.irc_link_writer.specs.Written.{next_distance, written_token}
use Rattle.irc_stage.specs.EffectTold.{Served, in_silence, with_sent}
use Rattle.irc_stage.specs.Linked.{told_on_all, with_row}
use Rattle.irc_stage.specs.View.{End, View}
use Rattle.irc_stage.specs.Lemmas.Numbers.{get-with, one_number, same_number}
use Rattle.irc_server.specs.DeedTold.{gain_told, told_by}
use Rattle.irc_server.specs.Heard.{Heard, meets, tells}
use Rattle.irc_server.specs.LinkServed.{after_heard, line_served, met_by, on_link, owes}
use Rattle.irc_server.specs.Served.{served}
use Rattle.irc_readback.specs.Lemmas.LinesReadBack.{command_plain, from_plain}
use Rattle.irc_readback.specs.Lemmas.ModeWords.{digits_plain}
use Rattle.irc_readback.specs.Lemmas.NumberText.{number_digits, number_read, number_taken}
use Rattle.irc_follow.specs.Tree.{gained, told_token, CanGain}
use Rattle.irc_follow.specs.SideState.{ItemSetting, info_in, number, IsItemSetting, IsSoundSide}
use Rattle.irc_follow.specs.SideState as of_side
use Rattle.irc_follow.specs.Fits.{Fits}
use Rattle.irc_follow.specs.Laws.{GoesOn, SaidGainGoesOn}
use Rattle.irc_follow.specs.Says.{neighbour_served, body, lines_on, machine, saying, Says}
use Rattle.irc_follow.specs.Says.{IsDoableGain}
use Rattle.irc_follow.specs.Lemmas.CarriedLines.{server_carried}
use Rattle.irc_follow.specs.Lemmas.Neighbours.{IsKnownOfLines}
use Rattle.irc_follow.specs.Lemmas.Neighbours as beside
use Rattle.irc_follow.specs.Lemmas.EffectsReadNext.{distance_at, low_token}
use Rattle.irc_follow.specs.Lemmas.SaidEffect.{own_name}
use Rattle.irc_follow.specs.Lemmas.SaidGain as gain_of
use Rattle.irc_follow.specs.Lemmas.TreeGains as tree_of

-- all that is looked at in a SERVER is so
pub server_so : (parameters token direction names : Bool) (late : Option CloseReason)
    (told : List Told) → parameters ≡ true → token ≡ true → direction ≡ true → names ≡ true
    → late ≡ None → first_reason (record {
      parameters = parameters;
      token = token;
      direction = direction;
      names = names;
      late = late;
      told = told;
    }) ≡ Ok told
server_so false token direction names late told a b c d e = cc a
server_so true false direction names late told a b c d e = cc b
server_so true true false names late told a b c d e = cc c
server_so true true true false late told a b c d e = cc d
server_so true true true true (Some why) told a b c d e = cc e
server_so true true true true None told a b c d e = refl

pub four_so : (a b c d : Bool) → a ≡ true → b ≡ true → c ≡ true → d ≡ true
    → (a && b && c && d) ≡ true
four_so a b c d p q r t = cc

pub low_distance : (d n : ℕ) → d < n → n ≤ max_servers → nat_lt d max_number ≡ true
low_distance d n small few = grind (arith, nat_tests)

pub low_number : (d n : ℕ) → d < n → n ≤ max_servers → d ≤ max_number
low_number d n small few = omega arith

pub low_token_number : (n : ℕ) → n ≤ max_servers → n ≤ max_number
low_token_number n few = omega arith

pub text_no_nul : (bytes : List ℕ) → list_all is_text_byte bytes ≡ true → has_nul bytes ≡ false
text_no_nul [] all = refl
text_no_nul (byte ∷ bytes) all =
    ap (λ b. b || has_nul bytes)
    (nat_eq-unlike is_text_byte 0x00 byte refl (first_so (is_text_byte byte) _ all))
    ∙ text_no_nul bytes (second_so (is_text_byte byte) _ all)

some_digits : (digits : List ℕ) → is_number digits ≡ true → digits ≢ []
unfolding is_number
some_digits [] is = cc is
some_digits (digit ∷ digits) is = λ e. cc e

pub number_plain : (n : ℕ) → 1 ≤ n → n ≤ 4294967295 → IsPlainWord (decimal n)
number_plain n least most = digits_plain (decimal n) (number_digits n most)
    (some_digits (decimal n) (number_taken n least most))

-- lines on one link are on no other
pub none_on_another : (k link : ℕ) → nat_eq link k ≡ false → (lines : List Written)
    → lines_on k (on_link link lines) ≡ []
none_on_another k link apart [] = refl
none_on_another k link apart (parts ∷ lines) =
    ap (λ b. lines_if b) apart ∙ none_on_another k link apart lines
  where
    lines_if : Bool → List (List ℕ)
    lines_if b =
        cons_option (if b then Some (body (text parts)) else None) (lines_on k (on_link link lines))

module _ (known : IsKnownOfLines) (uplink name words : List ℕ) (s : ItemSetting) (p t u : Name)
    (w : of_side.SideState) (view other : View) (line : List ℕ) (client : ℕ)
    (fixed : IsItemSetting s) (takes : TakesFrom s.streams t p) (next : TakesFrom s.streams u t)
    (apart : u ≢ p) (writer : Fits s t w view)
    (reader : Fits s u w other) (says : Says s p t w view (gains uplink name words) line) where
  sound : IsSoundSide s w
  sound = writer.sound

  doable : IsDoableGain s w uplink name words
  doable = says.doable

  abbrev info : Name → List ℕ
  info = info_in s.settings

  can : CanGain s.names info w.tree uplink name words
  can = doable.can

  abbrev now : of_side.SideState
  now = record w { tree = gained s.names uplink name words w.tree }

  now_sound : IsSoundSide s now
  now_sound = gain_of.gain_sound s fixed p t w view takes writer uplink name words doable

  not_writer : name ≢ t
  not_writer = tree_of.another s.names info fixed.servers fixed.few w.tree sound.tree t name
      writer.here can.unknown

  not_reader : name ≢ u
  not_reader = tree_of.another s.names info fixed.servers fixed.few w.tree sound.tree u name
      reader.here can.unknown

  u_linked : AreLinked w.tree.forest u t
  u_linked = sound.parents u t next

  way : toward w.tree.forest u name ≡ t
  way = doable.far u t reader.here next

  uplink_named : IsServer uplink
  uplink_named = fixed.servers.named uplink (sound.tree.known_among uplink can.uplink_known)

  name_named : IsServer name
  name_named = fixed.servers.named name can.among

  described : IsInfo words
  described = subst IsInfo (sym can.described) (fixed.servers.described name can.among)

  -- ---- numbers

  abbrev written : Known
  written = now.tree.routes t

  abbrev links : ℕ
  links = distance w.tree.forest u name

  abbrev ours : ℕ
  ours = told_token w.tree t name

  further : links ≡ suc (distance w.tree.forest t name)
  further =
      (next_hop w.tree.forest u name sound.tree.forest (can.joined u reader.here)
      (λ e. not_reader (sym e))).nearer
      ∙ ap (λ n. suc (distance w.tree.forest n name)) way

  knows_it : now.tree.knows name ≡ true
  knows_it =
      ap (λ b. w.tree.knows name || b) (same_when name name refl) ∙ or-true (w.tree.knows name)

  next_is : next_distance written name ≡ links
  next_is = ap (λ o. suc (unwrap_or o 0)) (distance_at s now now_sound t name writer.here knows_it)
      ∙ sym further

  number_is : token_out written name ≡ Some ours
  number_is = tree_of.token_new s.names info fixed.servers fixed.few w.tree sound.tree uplink name
      words can t
      (sound.tree.known_among t (sound.tree.here_known t writer.here)) (inl writer.here)

  token_is : written_token written name ≡ ours
  token_is = ap (λ o. unwrap_or o 0) number_is

  low_ours : (1 ≤ ours) × (ours ≤ max_servers)
  low_ours = low_token s now now_sound t name ours writer.here number_is

  short : links < length s.names
  short = ways_fit_names s.names w.tree.forest u name sound.tree.forest sound.tree.ends
      (sound.tree.known_among u (sound.tree.here_known u reader.here))
      (can.joined u reader.here)

  distance_most : next_distance written name ≤ max_number
  distance_most =
      subst (λ n. n ≤ max_number) (sym next_is) (low_number links (length s.names) short fixed.few)

  distance_least : 1 ≤ next_distance written name
  distance_least = omega arith

  token_most : written_token written name ≤ max_number
  token_most = subst (λ n. n ≤ max_number) (sym token_is) (low_token_number ours low_ours.1)

  token_least : 1 ≤ written_token written name
  token_least = subst (λ n. 1 ≤ n) (sym token_is) low_ours.0

  -- ---- the way to it is by the server that it is linked to

  by_uplink : (x : Name) → w.tree.here x ≡ true → name ≢ x
      → distance w.tree.forest x name ≡ suc (distance w.tree.forest x uplink)
  by_uplink x here two =
      distance_back w.tree.forest x name sound.tree.forest (can.joined x here)
      ∙ (next_hop w.tree.forest name x sound.tree.forest (sym (can.joined x here)) two).nearer
      ∙ ap (λ n. suc (distance w.tree.forest n x)) (can.beside x here)
      ∙ ap suc (sym (distance_back w.tree.forest x uplink sound.tree.forest
      (sound.tree.joined x uplink here can.uplink_known)))

  uplink_way : toward w.tree.forest u uplink ≡ t
  uplink_way = by (one_way w.tree.forest u t uplink sound.tree.forest u_linked
      (sound.tree.joined u uplink reader.here can.uplink_known))
    where
      by : OneWay w.tree.forest u t uplink → toward w.tree.forest u uplink ≡ t
      by (forth _ is) = is
      by (return two back) =
          let far = (next_hop w.tree.forest t uplink sound.tree.forest
          (sound.tree.joined t uplink writer.here can.uplink_known) two).nearer
          ∙ ap (λ n. suc (distance w.tree.forest n uplink)) back in
          let from_t = by_uplink t writer.here not_writer in
          let from_u = by_uplink u reader.here not_reader in
          let step = further in
          absurd (omega arith)

  not_uplink : uplink ≢ u
  not_uplink is = linked_other w.tree.forest u t sound.tree.forest u_linked
      (sym (toward_self w.tree.forest u) ∙ ap (toward w.tree.forest u) (sym is) ∙ uplink_way)

  -- ---- the line

  abbrev parts : Written
  parts = server_parts written uplink name words

  plain : IsPlain parts
  plain = from_plain uplink (codes "SERVER") (name ∷ decimal (next_distance written name) ∷ decimal
      (written_token written name) ∷ []) (Some words)
      (known.names.server uplink uplink_named).plain (command_plain _ _ refl refl refl) (
        (known.names.server name name_named).plain,
        (
          number_plain (next_distance written name) distance_least distance_most,
          (number_plain (written_token written name) token_least token_most, tt),
        ),
      )
      (text_no_nul words (first_so (list_all is_text_byte words) _ described)) (lit≤ tt)

  abbrev far_reader : Reader
  far_reader = beside.far_reader s p t u w view other takes next apart writer reader

  next_so : is_next_distance far_reader uplink links ≡ true
  next_so =
      and_from
      (option_map_or (λ far. nat_eq links (far + 1)) (distance_of other.routes uplink) true)
      (nat_lt links max_number)
      (ap (λ o. option_map_or (λ far. nat_eq links (far + 1)) o true)
      (ap (λ routes. distance_of routes uplink) reader.routes
      ∙ distance_at s w sound u uplink reader.here can.uplink_known)
      ∙ eq-eqb links (distance w.tree.forest u uplink + 1)
      (let one = by_uplink u reader.here not_reader in omega arith))
      (low_distance links (length s.names) short fixed.few)

  distance_read : number_of (decimal (next_distance written name)) ≡ links
  distance_read = number_read (next_distance written name) distance_most ∙ next_is

  token_read : number_of (decimal (written_token written name)) ≡ ours
  token_read = number_read (written_token written name) token_most ∙ token_is

  token_free : is_none
      (token_in other.routes (number s t) (number_of (decimal (written_token written name)))) ≡ true
  token_free =
      ap (λ n. is_none (token_in other.routes (number s t) n)) token_read
      ∙ ap (λ routes. is_none (token_in routes (number s t) ours)) reader.routes
      ∙ ap (λ q. is_none (token_in (w.tree.routes u) (number s q) (told_token w.tree q name)))
      (sym way)
      ∙ ap is_none (tree_of.number_free s.names info fixed.servers fixed.few w.tree sound.tree
      uplink name words can u reader.here)

  new_there : not_taken other.routes name ≡ None
  new_there =
      ap (λ routes. not_taken routes name) reader.routes
      ∙ ap (λ b. if b then Some reason.AlreadyKnown
      else (if is_full (w.tree.routes u) then Some reason.Full else None))
      (tree_of.not_known s.names info fixed.servers fixed.few w.tree sound.tree u name reader.here
      can.unknown)
      ∙ ap (λ b. if b then Some reason.Full else None)
      (tree_of.not_full s.names info fixed.servers fixed.few w.tree sound.tree u name reader.here
      can.unknown can.among)

  meant : deeds_meant other.room other.routes (number s t) (message_of parts)
      ≡ Ok (a_server uplink name links ours words ∷ [])
  unfolding deeds_meant
  meant =
      server_so
      (is_number (decimal (next_distance written name))
      && is_number (decimal (written_token written name)) && is_info words
      && is_next_distance far_reader uplink (number_of (decimal (next_distance written name))))
      (is_none (token_in other.routes (number s t)
      (number_of (decimal (written_token written name))))) (may_come far_reader uplink)
      (is_server uplink && is_server name) (not_taken other.routes name)
      (a_server uplink name (number_of (decimal (next_distance written name)))
      (number_of (decimal (written_token written name))) words ∷ [])
      (four_so (is_number (decimal (next_distance written name)))
      (is_number (decimal (written_token written name))) (is_info words) _
      (number_taken (next_distance written name) distance_least distance_most)
      (number_taken (written_token written name) token_least token_most) described
      (ap (is_next_distance far_reader uplink) distance_read ∙ next_so))
      token_free
      (beside.server_may_come s p t u w view other takes next apart writer reader uplink
      uplink_named
      (beside.is_behind s p t u w view other takes next apart writer reader uplink can.uplink_known
      uplink_way not_uplink))
      (and_from (is_server uplink) (is_server name) uplink_named name_named) new_there
      ∙ ap (λ n. Ok (a_server uplink name n (number_of (decimal (written_token written name))) words
      ∷ [])) distance_read
      ∙ ap (λ n. Ok (a_server uplink name links n words ∷ [])) token_read

  -- ---- what goes to the neighbour

  abbrev k : ℕ
  k = number s p

  abbrev with_it : View → View
  with_it v =
      with_row k uplink name (distance w.tree.forest t name) (told_token w.tree p name) words v

  told_lines : (before : Served) → before.state.routes ≡ view.routes
      → get before.state.ends (number s u) ≡ get view.ends (number s u)
      → lines_on (number s u) before.out ≡ [] → lines_on (number s u) (gain_told k uplink name words
      (record before { state = with_it before.state })).out ≡ line_text parts ∷ []
  told_lines before routes ends none =
      ap (λ r. lines_on (number s u) (told_on_all (Some k) (server_parts r uplink name words)
      (record before { state = with_it before.state })).out)
      (ap (λ r. (with_it (record view { routes = r })).routes) routes
      ∙ gain_of.routes_now s fixed p t w view takes writer uplink name words doable)
      ∙ beside.told_all s p t u w view other takes next apart writer reader false parts
      (record before { state = with_it before.state }) ends
      ∙ ap (λ l. l ++ (line_text parts ∷ [])) none

  by_line : lines_on (number s u) (told_by k (a_server uplink name (distance w.tree.forest t name)
      (told_token w.tree p name) words) (in_silence view)).out
      ≡ line_text parts ∷ []
  unfolding told_by
  by_line =
      ap (λ b. lines_on (number s u) (if b then gain_told k uplink name words
      (record (in_silence view) { state = with_it view }) else in_silence view).out)
      (gain_of.taken s fixed p t w view takes writer uplink name words doable)
      ∙ told_lines (in_silence view) refl refl refl

  -- by the first line of the new server itself
  module _ (is_p : name ≡ p) (end : End) (is_end : get view.ends k ≡ Some end) where
    abbrev met : View
    met = gain_of.met s fixed p t w view takes writer uplink name words doable is_p end is_end

    abbrev before : Served
    before = with_sent (on_link k (owes view k name)) (in_silence met)

    other_end : get met.ends (number s u) ≡ get view.ends (number s u)
    other_end =
        get-with view.ends k (record end { far = Some name }) (number s u)
        ∙ ap (λ b. cond b (Some (record end { far = Some name })) (get view.ends (number s u)))
        (two (same_number (number s u) k) refl)
      where
        two : (b : Bool) → same_number (number s u) k ≡ b → b ≡ false
        two false is = refl
        two true is = cc (sym (beside.not_back s p t u w view other takes next apart writer reader)
            ∙ eq-eqb k (number s u) (sym (one_number (number s u) k is)))

    by_greeting : lines_on (number s u) (met_by k name words view).out ≡ line_text parts ∷ []
    unfolding told_by
    by_greeting =
        ap (λ v. lines_on (number s u) (told_by k (a_server view.routes.name name 1 1 words)
        (with_sent (on_link k (owes view k name)) (in_silence v))).out)
        (gain_of.with_far_is s fixed p t w view takes writer uplink name words doable is_p
        end is_end)
        ∙ ap (λ b. lines_on (number s u) (if b then gain_told k view.routes.name name words
        (record before { state = with_row k view.routes.name name 1 1 words met })
        else before).out)
        (gain_of.taken_met s fixed p t w view takes writer uplink name words doable is_p end is_end)
        ∙ ap (λ v. lines_on (number s u)
        (gain_told k view.routes.name name words (record before { state = v })).out)
        (gain_of.row_now s fixed p t w view takes writer uplink name words doable is_p end is_end)
        ∙ ap (λ n. lines_on (number s u)
        (gain_told k n name words (record before { state = with_it met })).out)
        (own_name s p t w view takes writer ∙ sym (gain_of.is_t s fixed p t w view takes writer
        uplink name words doable is_p end is_end))
        ∙ told_lines before refl other_end (none_on_another (number s u) k (beside.not_back s p t u
        w view other takes next apart writer reader) (owes view k name))

  lines : lines_on (number s u) (neighbour_served s p view line).out ≡ line_text parts ∷ []
  unfolding served
  lines =
      ap (λ o. lines_on (number s u) (line_served view k (read_of line) o).out) says.is_end
      ∙ ap (λ what. lines_on (number s u) (after_heard view k what).out) says.means
      ∙ by (tell name p)
    where
      choose : Bool → Heard
      choose b = if b then meets name words else tells (a_server uplink name
          (distance w.tree.forest t name) (told_token w.tree p name) words ∷ [])

      by : Telling name p → lines_on (number s u) (after_heard view k (choose (same name p))).out
          ≡ line_text parts ∷ []
      by (alike is e) = ap (λ b. lines_on (number s u) (after_heard view k (choose b)).out) is
          ∙ by_greeting e says.end says.is_end
      by (unlike is _) = ap (λ b. lines_on (number s u) (after_heard view k (choose b)).out) is
          ∙ by_line

  saying_is : saying s w t u (gains uplink name words)
      ≡ tells (a_server uplink name links ours words ∷ [])
  saying_is = ap (λ b. if b then meets name words
      else tells (a_server uplink name links ours words ∷ [])) (same_unless name t not_writer)

  goes : GoesOn s t u w other (gains uplink name words) ((machine s client).sends t p view line u)
  goes = beside.goes_on s p t u w view other takes next apart writer reader known parts plain
      (server_fits written uplink name words
      (record {
        uplink_named = uplink_named;
        named = name_named;
        described = described;
        distance = distance_most;
        number = token_most;
      }))
      (server_carried known.names uplink uplink_named written name words name_named described
      distance_most token_most)
      (gains uplink name words)
      (a_server uplink name links ours words ∷ []) line client saying_is meant doable lines

pub said_gain_goes_on : IsKnownOfLines → SaidGainGoesOn
said_gain_goes_on known uplink name words s p t u w view other line client fixed takes next apart
    writer reader says =
    goes known uplink name words s p t u w view other line client fixed takes next apart writer
    reader says
