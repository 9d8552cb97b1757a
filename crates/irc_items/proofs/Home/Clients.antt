-- The clients that stay where only some do: whatever is done to all clients may be done to those.
use Rattle.std.proofs.Common.{◌≡◌, ℕ, Bool, true, false, cond, Option, Some, None, refl, sym, ◌∙◌}
use Rattle.std.proofs.Common.{ap, option_map}
use Rattle.std.specs.FinMap.{get, insert, remove, retain_keys}
use Rattle.irc_room.specs.effect.Effect.{Effect}
use Rattle.irc_room.specs.effect.Effect.TheVariants.{Rename}
use Rattle.irc_stage.specs.declared.clients.Client.{Client}
use Rattle.irc_stage.specs.Handle.{clients_after, renamed_in}
use Rattle.irc_stage.specs.RoomMachine.{Clients, each_client}
use Rattle.irc_stage.specs.Lemmas.Counting.{get-kept}
use Rattle.irc_stage.specs.Lemmas.Numbers.{get-each, get-with, get-without, one_number}
use Rattle.irc_stage.specs.Lemmas.Numbers.{same_clients, same_number}

module _ (stays : ℕ → Bool) where
  abbrev pub staying : Clients → Clients
  staying clients = retain_keys clients stays

  pub staying_at : (clients : Clients) (q : ℕ)
      → get (staying clients) q ≡ cond (stays q) (get clients q) None
  staying_at clients q = get-kept clients stays q

  pub staying_there : (clients : Clients) (q : ℕ) → stays q ≡ true
      → get (staying clients) q ≡ get clients q
  staying_there clients q is = staying_at clients q ∙ ap (λ b. cond b (get clients q) None) is

  pub staying_with : (clients : Clients) (conn : ℕ) (client : Client) → stays conn ≡ true
      → insert (staying clients) conn client ≡ staying (insert clients conn client)
  staying_with clients conn client is = same_clients (insert (staying clients) conn client)
      (staying (insert clients conn client)) (λ q.
      get-with (staying clients) conn client q
      ∙ ap (λ o. cond (same_number q conn) (Some client) o) (staying_at clients q)
      ∙ by q (same_number q conn) (stays q) refl refl
      ∙ ap (λ o. cond (stays q) o None) (sym (get-with clients conn client q))
      ∙ sym (staying_at (insert clients conn client) q))
    where
      by : (q : ℕ) (b c : Bool) → same_number q conn ≡ b → stays q ≡ c → cond b (Some client)
          (cond c (get clients q) None) ≡ cond c (cond b (Some client) (get clients q)) None
      by q true true one there = refl
      by q true false one there = absurd (cc (sym there ∙ ap stays (one_number q conn one) ∙ is))
      by q false c two there = refl

  pub staying_without : (clients : Clients) (conn : ℕ)
      → remove (staying clients) conn ≡ staying (remove clients conn)
  staying_without clients conn =
      same_clients (remove (staying clients) conn) (staying (remove clients conn)) (λ q.
      get-without (staying clients) conn q
      ∙ ap (λ o. cond (same_number q conn) None o) (staying_at clients q)
      ∙ by (same_number q conn) (stays q) (get clients q)
      ∙ ap (λ o. cond (stays q) o None) (sym (get-without clients conn q))
      ∙ sym (staying_at (remove clients conn) q))
    where
      by : (b c : Bool) (o : Option Client)
          → cond b None (cond c o None) ≡ cond c (cond b None o) None
      by true true o = refl
      by true false o = refl
      by false c o = refl

  staying_each : (change : Client → Client) (clients : Clients)
      → each_client change (staying clients) ≡ staying (each_client change clients)
  staying_each change clients = same_clients (each_client change (staying clients))
      (staying (each_client change clients)) (λ q.
      get-each change (staying clients) q
      ∙ ap (option_map change) (staying_at clients q)
      ∙ by (stays q) (get clients q)
      ∙ ap (λ o. cond (stays q) o None) (sym (get-each change clients q))
      ∙ sym (staying_at (each_client change clients) q))
    where
      by : (b : Bool) (o : Option Client)
          → option_map change (cond b o None) ≡ cond b (option_map change o) None
      by true o = refl
      by false o = refl

  pub staying_after : (effect : Effect) (clients : Clients)
      → clients_after effect (staying clients) ≡ staying (clients_after effect clients)
  staying_after (Rename nick new) clients = staying_each (renamed_in nick new) clients
  staying_after effect clients = refl
