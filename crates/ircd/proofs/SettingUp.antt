-- What settings set up, or why they set up nothing.
use Rattle.std.proofs.Common.{◌≡◌, ◌∙◌, ℕ, Option, Some, None, Result, Ok, Err, IsErrAnd, List, []}
use Rattle.std.proofs.Common.{◌∷◌, ◌++◌, append_assoc, append-nil, length, is_some, map, option_map}
use Rattle.std.proofs.Common.{option_to_list, string_bytes, String, Vec, Bor, refl, ap, sym, subst}
use Rattle.std.specs.declared.alloc.Global.{Global}
use Rattle.std.specs.Option.{option_copied}
use Rattle.std.specs.declared.net.socket_addr.SocketAddr.{SocketAddr}
use Rattle.std.proofs.lemmas.List.{nil_from_length}
use Rattle.irc_routes.specs.About.{about_of, serves}
use Rattle.irc_routes.specs.declared.programs.Programs.{Programs}
use Rattle.irc_server.specs.declared.config.Config.{Config}
use Rattle.irc_server.specs.declared.config.ConfigFault.{ConfigFault}
use Rattle.irc_server.specs.declared.config.ConfigFault.TheVariants.{BadName, DoubleName, Memory}
use Rattle.irc_server.specs.Configuring.{config_fault, IsMadeServing}
use Rattle.irc_stage.specs.View.{View}
use Rattle.irc_engine.specs.Knowing.{HasNobody}
use Rattle.irc_engine.specs.Lemmas.NewServers.{made_has_nobody}
use Rattle.irc_settings.specs.declared.settings.Settings.{Settings}
use Rattle.irc_settings.specs.declared.settings.PeerSettings.{PeerSettings}
use Rattle.irc_entrance.specs.Ranges.{IsSomeNoRange}
use Rattle.irc_sockets.specs.declared.calls.Callee.{Callee}
use Rattle.irc_endings.specs.declared.fault.Stop.{Stop}
use Rattle.irc_endings.specs.declared.fault.Stop.TheVariants.{Usage, BadScript, BadConfiguration}
use Rattle.irc_endings.specs.declared.fault.Stop.TheVariants.{Failed}
use Rattle.irc_doorman.specs.declared.asks.Asks.{Asks}
use Rattle.ircd.specs.Loops.SettingUp.{FindsAddress, FindsAsks, FindsPassword}
use Rattle.ircd.specs.Loops.SettingUp.{FindsCallee, FindsCallees, FindsName, FindsOptional}
use Rattle.ircd.specs.Loops.SettingUp.{FindsRanges}
use Rattle.ircd.specs.Serving.{AreCalled, Configures, IsAddress, IsNoAddress}
use Rattle.ircd.specs.Serving.{IsRefused, IsSomeUncalled, IsUnset, SetsUpPart}
use Rattle.ircd.specs.Serving.{nobody, uncalled, called, no_address, no_name, this, later}
use Rattle.ircd.specs.Serving.{no_password}
use Rattle.ircd.specs.Serving.IsRefused.{asked, clients, deny, links, proxies, server}
use Rattle.ircd.specs.Serving.IsRefused.{called as uncallable}
use Rattle.irc_endings.specs.Statuses.{stop_of_config}

-- what the calls of those that are left are, behind the calls so far, those of all are; and one of
-- all cannot be called where one of these cannot
pub record Left (rest all : List PeerSettings) (so_far : List Callee) : Type 0 where
  pub called : (more : List Callee) → AreCalled rest more → AreCalled all (so_far ++ more)
  pub uncalled : IsSomeUncalled rest → IsSomeUncalled all

-- a text that may be left out, behind a borrow and as it stands
lent_text : {Z : Type 0} (lent : Option (Bor (String Z)))
    → option_map (λ text. string_bytes text.now) lent ≡ option_map string_bytes (option_copied lent)
lent_text None = refl
lent_text (Some text) = refl

pub lent_is : {Z : Type 0} (lent : Option (Bor (String Z))) (setting : Option (String Z))
    → option_copied lent ≡ setting
    → option_map (λ text. string_bytes text.now) lent ≡ option_map string_bytes setting
lent_is lent setting is = lent_text lent ∙ ap (λ some. option_map string_bytes some) is

pub found_in : {Z : Type 0} (lent : Option (Bor (String Z))) (setting : Option (String Z))
    (found : Result (Option SocketAddr) Stop) → option_copied lent ≡ setting
    → FindsOptional (option_map (λ text. string_bytes text.now) lent) found
    → FindsOptional (option_map string_bytes setting) found
found_in lent setting found is finds =
    subst (λ text. FindsOptional text found) (lent_is lent setting is) finds

-- there is a text, and it is no address
pub record NotFound (text : Option (List ℕ)) (stop : Stop) : Type 0 where
  pub stop_is : stop ≡ BadConfiguration
  pub written : List ℕ
  pub written_is : text ≡ Some written
  pub is_none : IsNoAddress written

pub not_found : (text : Option (List ℕ)) (stop : Stop) → FindsOptional text (Err stop)
    → NotFound text stop
not_found (Some written) stop found =
    record { stop_is = found.0; written = written; written_is = refl; is_none = found.1 }
not_found None stop found = absurd found

-- one more, called or not
one_more : (first : PeerSettings) (rest : List PeerSettings) (call : Option Callee)
    (more : List Callee) → FindsCallee first (Ok call) → AreCalled rest more
    → AreCalled (first ∷ rest) (option_to_list call ++ more)
one_more first rest None more found called_rest = uncalled found called_rest
one_more first rest (Some call) more found called_rest = called found called_rest

pub left_behind : (rest all more : List PeerSettings) (first : PeerSettings) (call : Option Callee)
    (before now : List Callee) → rest ≡ first ∷ more → FindsCallee first (Ok call)
    → now ≡ before ++ option_to_list call → Left rest all before → Left more all now
left_behind rest all more first call before now is found added left =
    let behind : Left (first ∷ more) all before = subst (λ these. Left these all before) is left in
    record {
      called = λ others some.
          subst (AreCalled all) (sym (append_assoc before (option_to_list call) others)
          ∙ ap (λ calls. calls ++ others) (sym added))
          (behind.called (option_to_list call ++ others)
          (one_more first more call others found some));
      uncalled = λ some. behind.uncalled (later some);
    }

pub left_here : (rest all more : List PeerSettings) (first : PeerSettings) (before : List Callee)
    (r : Result (Vec Callee Global) Stop) (stop : Stop) → rest ≡ first ∷ more → FindsCallee first
    (Err stop) → Left rest all before → IsErrAnd r (λ e. e ≡ stop) → FindsCallees all r
left_here rest all more first before (Ok _) stop is found left failed = absurd failed
left_here rest all more first before (Err e) stop is found left failed =
    let behind : Left (first ∷ more) all before = subst (λ these. Left these all before) is left in
    subst (λ s. FindsCallees all (Err s)) (sym (failed ∙ found.0)) (behind.uncalled (this found.1))

pub left_nobody : (rest all : List PeerSettings) (calls : List Callee) → length rest ≡ 0
    → Left rest all calls → AreCalled all calls
left_nobody rest all calls is left =
    let behind : Left [] all calls =
    subst (λ these. Left these all calls) (nil_from_length rest is) left in
    subst (AreCalled all) (append-nil calls) (behind.called [] nobody)

pub calls_lost : (all : List PeerSettings) (r : Result (Vec Callee Global) Stop)
    → IsErrAnd r (λ e. e ≡ Failed) → FindsCallees all r
calls_lost all (Ok _) failed = absurd failed
calls_lost all (Err e) failed = subst (λ s. FindsCallees all (Err s)) (sym failed) tt

-- what is found of one peer
no_address_there : (peer : PeerSettings) (r : Result (Option Callee) Stop) (stop : Stop) → NotFound
    (option_map string_bytes peer.connect) stop → IsErrAnd r (λ e. e ≡ stop) → FindsCallee peer r
no_address_there peer (Ok _) stop none failed = absurd failed
no_address_there peer (Err e) stop none failed =
    (failed ∙ none.stop_is, no_address none.written_is none.is_none)

pub address_refused : (peer : PeerSettings) (r : Result (Option Callee) Stop) (stop : Stop)
    → FindsOptional (option_map string_bytes peer.connect) (Err stop) → IsErrAnd r (λ e. e ≡ stop)
    → FindsCallee peer r
address_refused peer r stop found failed = no_address_there peer r stop
    (not_found (option_map string_bytes peer.connect) stop found) failed

-- a text that is an address is one
pub record Written (text : Option (List ℕ)) : Type 0 where
  pub written : List ℕ
  pub written_is : text ≡ Some written

written_so : (text : Option (List ℕ)) (address : SocketAddr) → IsAddress text (Some address)
    → Written text
written_so (Some written) address is = record { written = written; written_is = refl }
written_so None address is = absurd is

pub name_refused : (peer : PeerSettings) (r : Result (Option Callee) Stop) (stop : Stop)
    (address : SocketAddr) → IsAddress (option_map string_bytes peer.connect) (Some address)
    → FindsName (string_bytes peer.name) (Err stop) → IsErrAnd r (λ e. e ≡ stop)
    → FindsCallee peer r
name_refused peer (Ok _) stop address is found failed = absurd failed
name_refused peer (Err e) stop address is found failed =
    let text : Written (option_map string_bytes peer.connect) =
    written_so (option_map string_bytes peer.connect) address is in
    (failed ∙ found.0, no_name text.written_is found.1)

-- ---- why a part is not set up

pub unset_part : {A : Type 0} (IsSo : A → Type 0) (settings : Settings) (r : Result A Stop)
    (stop : Stop) → IsUnset settings stop → IsErrAnd r (λ e. e ≡ stop) → SetsUpPart IsSo settings r
unset_part IsSo settings (Ok part) stop unset failed = absurd failed
unset_part IsSo settings (Err e) stop unset failed =
    subst (λ s. IsUnset settings s) (sym failed) unset

refused_by : (settings : Settings) (stop : Stop) → stop ≡ BadConfiguration → IsRefused settings
    → IsUnset settings stop
refused_by settings stop is why = subst (λ s. IsUnset settings s) (sym is) why

pub calls_refused : (settings : Settings) (stop : Stop)
    → FindsCallees settings.peers.items (Err stop) → IsUnset settings stop
calls_refused settings BadConfiguration found = uncallable found
calls_refused settings Failed found = tt
calls_refused settings Usage found = absurd found
calls_refused settings (BadScript line) found = absurd found

pub listen_refused : (settings : Settings) (stop : Stop)
    → FindsAddress (string_bytes settings.listen) (Err stop) → IsUnset settings stop
listen_refused settings stop found = refused_by settings stop found.0 (clients found.1)

pub links_refused : (settings : Settings) (stop : Stop)
    → FindsOptional (option_map string_bytes settings.listen_links) (Err stop)
    → IsUnset settings stop
links_refused settings stop found =
    let none : NotFound (option_map string_bytes settings.listen_links) stop =
    not_found (option_map string_bytes settings.listen_links) stop found in
    refused_by settings stop none.stop_is (links none.written_is none.is_none)

-- of both lists of ranges alike
ranges_refused : (settings : Settings) (texts : List (List ℕ)) (stop : Stop)
    → (IsSomeNoRange texts → IsRefused settings) → FindsRanges texts (Err stop)
    → IsUnset settings stop
ranges_refused settings texts BadConfiguration why found = why found
ranges_refused settings texts Failed why found = tt
ranges_refused settings texts Usage why found = absurd found
ranges_refused settings texts (BadScript line) why found = absurd found

pub deny_refused : (settings : Settings) (stop : Stop)
    → FindsRanges (map string_bytes settings.deny.items) (Err stop) → IsUnset settings stop
deny_refused settings stop found =
    ranges_refused settings (map string_bytes settings.deny.items) stop (λ some. deny some) found

pub proxies_refused : (settings : Settings) (stop : Stop)
    → FindsRanges (map string_bytes settings.proxies.items) (Err stop) → IsUnset settings stop
proxies_refused settings stop found =
    ranges_refused settings (map string_bytes settings.proxies.items) stop
    (λ some. proxies some) found

pub server_refused : (settings : Settings) (config : Config) (fault : ConfigFault)
    → Configures settings config → config_fault config ≡ Some fault
    → IsUnset settings (stop_of_config fault)
server_refused settings config BadName configures made =
    server config configures (ap is_some made)
server_refused settings config DoubleName configures made =
    server config configures (ap is_some made)
server_refused settings config Memory configures made = tt

-- what its clients have makes no difference to who is connected to a server that has been made
pub served_has_nobody : (programs : Programs) (config : Config) (behind : Option View)
    → IsMadeServing programs config (Ok behind) → HasNobody behind
served_has_nobody programs config behind made =
    made_has_nobody (serves programs (about_of config.own)) config behind made

-- ---- what clients are asked

pub password_refused : {Z : Type 0} (settings : Settings) (r : Result Asks Stop) (stop : Stop)
    (lent : Option (Bor (String Z))) (setting : Option (String Z)) → option_copied lent ≡ setting
    → option_map string_bytes setting ≡ option_map string_bytes settings.password
    → FindsPassword (option_map (λ text. string_bytes text.now) lent) (Err stop)
    → IsErrAnd r (λ e. e ≡ stop) → FindsAsks settings r
password_refused settings r stop lent setting lent_as is found failed =
    by r (option_map (λ text. string_bytes text.now) lent) (lent_is lent setting lent_as ∙ is) found
    failed
  where
    by : (r : Result Asks Stop) (text : Option (List ℕ))
        → text ≡ option_map string_bytes settings.password → FindsPassword text (Err stop)
        → IsErrAnd r (λ e. e ≡ stop) → FindsAsks settings r
    by (Ok asks) text is found failed = absurd failed
    by (Err e) None is found failed = absurd found
    by (Err e) (Some written) is found failed =
        (failed ∙ found.0, no_password (sym is) found.1)

pub asks_refused : (settings : Settings) (stop : Stop) → FindsAsks settings (Err stop)
    → IsUnset settings stop
asks_refused settings stop found = refused_by settings stop found.0 (asked found.1)
