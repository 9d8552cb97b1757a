-- Clients and users that belong together, and what keeps them so: somebody is renamed, comes or
-- goes, and two such lists become one.
use Rattle.std.proofs.Common.{◌≡◌, ℕ, Bool, true, false, cond, Option, Some, None, List, refl, sym}
use Rattle.std.proofs.Common.{◌∙◌, ap, option_map, ◌⊎◌, ⊎_elim}
use Rattle.std.specs.Ordering.{eq_by_cmp, nat_cmp}
use Rattle.std.specs.Cmp.{nat_cmp_total, eq_by_cmp_equiv, Equal-is}
use Rattle.std.specs.FinMap.{nat_cmp-IsAntisymmetric}
use Rattle.std.proofs.lemmas.Bool.{false_from_ne_true}
use Rattle.std.proofs.lemmas.Option.{same_Some}
use Rattle.irc_names.specs.TableLaws.{same_fold, same_fold-refl, one_fold}
use Rattle.irc_relay.specs.Links.{Name}
use Rattle.irc_world.specs.ClientsUsers.{HasClient, AreMatched}

-- whether two numbers are one
abbrev pub same_number : ℕ → ℕ → Bool
same_number = eq_by_cmp nat_cmp

pub one_number : (client other : ℕ) → same_number client other ≡ true → client ≡ other
one_number client other same =
    nat_cmp-IsAntisymmetric client other ((Equal-is (nat_cmp client other)).0 same)

pub same_number-refl : (client : ℕ) → same_number client client ≡ true
same_number-refl client = (eq_by_cmp_equiv nat_cmp_total).refl client

module _ (homes : ℕ → Option Name) (user_home : List ℕ → Option Name)
    (registered : ℕ → Option (List ℕ)) (m : AreMatched homes user_home registered) where
  -- nothing is different
  pub still_matched : (user_new : List ℕ → Option Name) (registered_new : ℕ → Option (List ℕ))
      → ((fold : List ℕ) → user_new fold ≡ user_home fold) → ((client : ℕ)
      → registered_new client ≡ registered client) → AreMatched homes user_new registered_new
  still_matched user_new registered_new same_users same_clients = record {
    registered_is_user = λ client fold is.
        let old = m.registered_is_user client fold (sym (same_clients client) ∙ is) in
        record {
          home = old.home;
          of_client = old.of_client;
          of_user = same_users fold
              ∙ old.of_user;
        };
    user_has_one = λ client other fold is is_other. m.user_has_one client other fold
        (sym (same_clients client) ∙ is) (sym (same_clients other) ∙ is_other);
    user_has_client = λ fold home is.
        let old = m.user_has_client fold home (sym (same_users fold) ∙ is) in
        record { client = old.client; is_registered = same_clients old.client ∙ old.is_registered };
  }

  -- some clients and users are gone: a client just where its user is
  pub fewer_matched : (user_new : List ℕ → Option Name) (registered_new : ℕ → Option (List ℕ))
      → ((fold : List ℕ) (home : Name) → user_new fold ≡ Some home → user_home fold ≡ Some home)
      → ((client : ℕ) (fold : List ℕ) → registered_new client ≡ Some fold
      → registered client ≡ Some fold) → ((client : ℕ) (fold : List ℕ) (home : Name)
      → registered client ≡ Some fold → homes client ≡ Some home → user_home fold ≡ Some home
      → registered_new client ≡ Some fold → user_new fold ≡ Some home)
      → ((client : ℕ) (fold : List ℕ) (home : Name) → registered client ≡ Some fold
      → homes client ≡ Some home → user_home fold ≡ Some home → user_new fold ≡ Some home
      → registered_new client ≡ Some fold) → AreMatched homes user_new registered_new
  fewer_matched user_new registered_new users_were clients_were user_stays client_stays = record {
    registered_is_user = λ client fold is.
        let was = clients_were client fold is in
        let old = m.registered_is_user client fold was in
        record {
          home = old.home;
          of_client = old.of_client;
          of_user = user_stays client fold old.home was old.of_client old.of_user is;
        };
    user_has_one = λ client other fold is is_other. m.user_has_one client other fold
        (clients_were client fold is) (clients_were other fold is_other);
    user_has_client = λ fold home is.
        let old = m.user_has_client fold home (users_were fold home is) in
        let one = m.registered_is_user old.client fold old.is_registered in
        let same = same_Some home one.home (sym (users_were fold home is) ∙ one.of_user) in
        record {
          client = old.client;
          is_registered = client_stays old.client fold one.home
              old.is_registered one.of_client one.of_user (is ∙ ap Some same);
        };
  }

  -- a client goes, and its user quits
  pub left_matched : (gone : ℕ) (left : List ℕ) → registered gone ≡ Some left
      → (user_new : List ℕ → Option Name) (registered_new : ℕ → Option (List ℕ))
      → ((fold : List ℕ) → user_new fold ≡ cond (same_fold fold left) None (user_home fold))
      → ((client : ℕ) → registered_new client ≡ cond (same_number client gone) None
      (registered client)) → AreMatched homes user_new registered_new
  left_matched gone left is_gone user_new registered_new users_are clients_are =
      fewer_matched user_new registered_new
      (λ fold home is. user_was fold home (same_fold fold left) (sym (users_are fold) ∙ is))
      (λ client fold is. (client_was client fold (same_number client gone) refl
      (sym (clients_are client) ∙ is)).1)
      (λ client fold home was of_client of_user is.
      let apart =
      (client_was client fold (same_number client gone) refl (sym (clients_are client) ∙ is)).0
      in
      users_are fold
      ∙ ap (λ b. cond b None (user_home fold)) (false_from_ne_true (same_fold fold left) (λ one.
      let number =
      m.user_has_one gone client fold (is_gone ∙ ap Some (sym (one_fold fold left one))) was in
      let same = sym apart ∙ ap (λ n. same_number n gone) number ∙ same_number-refl gone in
      cc same)) ∙ of_user)
      (λ client fold home was of_client of_user is.
      clients_are client
      ∙ ap (λ b. cond b None (registered client))
      (false_from_ne_true (same_number client gone) (λ one.
      let fold_is =
      same_Some fold left (sym was ∙ ap registered (one_number client gone one) ∙ is_gone) in
      let none = sym (users_are fold ∙ ap (λ b. cond b None (user_home fold))
      (ap (λ f. same_fold f left) fold_is ∙ same_fold-refl left)) ∙ is in cc none))
      ∙ was)
    where
      user_was : (fold : List ℕ) (home : Name) (b : Bool) → cond b None (user_home fold) ≡ Some home
          → user_home fold ≡ Some home
      user_was fold home true is = absurd (cc is)
      user_was fold home false is = is

      client_was : (client : ℕ) (fold : List ℕ) (b : Bool)
          → same_number client gone ≡ b → cond b None (registered client) ≡ Some fold
          → (same_number client gone ≡ false) × (registered client ≡ Some fold)
      client_was client fold true one is = absurd (cc is)
      client_was client fold false two is = (two, is)

  -- one client more, and its user
  pub came_matched : (come : ℕ) (new : List ℕ) (new_home : Name) → registered come ≡ None
      → user_home new ≡ None → homes come ≡ Some new_home → (user_new : List ℕ → Option Name)
      (registered_new : ℕ → Option (List ℕ)) → ((fold : List ℕ) → user_new fold
      ≡ cond (same_fold fold new) (Some new_home) (user_home fold)) → ((client : ℕ)
      → registered_new client ≡ cond (same_number client come) (Some new) (registered client))
      → AreMatched homes user_new registered_new
  came_matched come new new_home none nobody at_home user_new registered_new users_are clients_are =
      record {
        registered_is_user = λ client fold is. came client fold is
            (λ client_is fold_is. record {
              home = new_home;
              of_client = ap homes client_is ∙ at_home;
              of_user = users_are fold ∙ ap (λ b. cond b (Some new_home) (user_home fold))
                  (ap (λ f. same_fold f new) (sym fold_is) ∙ same_fold-refl new);
            })
            (λ two was.
            let old = m.registered_is_user client fold was in
            record {
              home = old.home;
              of_client = old.of_client;
              of_user = users_are fold ∙ ap (λ b. cond b (Some new_home) (user_home fold))
                  (false_from_ne_true (same_fold fold new) (not_new client fold was)) ∙ old.of_user;
            });
        user_has_one = λ client other fold is is_other. came client fold is
            (λ client_is fold_is. came other fold is_other
            (λ other_is _. other_is ∙ sym client_is)
            (λ two was. absurd (not_new other fold was (ap (λ f. same_fold f new) (sym fold_is)
            ∙ same_fold-refl new))))
            (λ two was. came other fold is_other
            (λ other_is fold_is. absurd (not_new client fold was
            (ap (λ f. same_fold f new) (sym fold_is) ∙ same_fold-refl new)))
            (λ two_other was_other. m.user_has_one client other fold was was_other));
        user_has_client =
            λ fold home is. had fold home (same_fold fold new) refl (sym (users_are fold) ∙ is);
      }
    where
      came : {A : Type 0} (client : ℕ) (fold : List ℕ)
          → registered_new client ≡ Some fold → (client ≡ come → new ≡ fold → A)
          → (same_number client come ≡ false → registered client ≡ Some fold → A) → A
      came {A} client fold is mine others =
          by (same_number client come) refl (sym (clients_are client) ∙ is)
        where
          by : (b : Bool) → same_number client come ≡ b
              → cond b (Some new) (registered client) ≡ Some fold → A
          by true one is = mine (one_number client come one) (same_Some new fold is)
          by false two is = others two is

      not_new : (client : ℕ) (fold : List ℕ) → registered client ≡ Some fold
          → same_fold fold new ≡ true → ⊥
      not_new client fold was one =
          let old = m.registered_is_user client fold was in
          let none =
          sym nobody ∙ ap user_home (sym (one_fold fold new one)) ∙ old.of_user in cc none

      had : (fold : List ℕ) (home : Name) (b : Bool) → same_fold fold new ≡ b
          → cond b (Some new_home) (user_home fold) ≡ Some home → HasClient registered_new fold
      had fold home true one is = record {
        client = come;
        is_registered = clients_are come ∙ ap (λ b. cond b (Some new) (registered come))
            (same_number-refl come) ∙ ap Some (sym (one_fold fold new one));
      }
      had fold home false two is =
          let old = m.user_has_client fold home is in
          record {
            client = old.client;
            is_registered = clients_are old.client ∙ ap (λ b. cond b (Some new)
                (registered old.client)) (false_from_ne_true (same_number old.client come) (λ one.
                let clash = sym none ∙ ap registered (sym (one_number old.client come one))
                ∙ old.is_registered in cc clash)) ∙ old.is_registered;
          }

  -- a user takes another nickname, and so does its client
  pub moved_matched : (old new : List ℕ) (its_home : Name) → user_home old ≡ Some its_home
      → ((home : Name) → user_home new ≡ Some home → new ≡ old)
      → (user_new : List ℕ → Option Name) (registered_new : ℕ → Option (List ℕ))
      → ((fold : List ℕ) → user_new fold ≡ cond (same_fold fold new) (Some its_home)
      (cond (same_fold fold old) None (user_home fold))) → ((client : ℕ) → registered_new client
      ≡ option_map (λ fold. cond (same_fold fold old) new fold) (registered client))
      → AreMatched homes user_new registered_new
  moved_matched old new its_home at_old free user_new registered_new users_are clients_are =
      record {
        registered_is_user = λ client fold is. moves client fold is
            (λ was new_is.
            let one = m.registered_is_user client old was in
            record {
              home = one.home;
              of_client = one.of_client;
              of_user = ap user_new (sym new_is)
                  ∙ at_new ∙ sym at_old ∙ one.of_user;
            })
            (λ was two.
            let one = m.registered_is_user client fold was in
            record {
              home = one.home;
              of_client = one.of_client;
              of_user =
                  at_other fold
                  (false_from_ne_true (same_fold fold new) (not_new client fold was two)) two
                  ∙ one.of_user;
            });
        user_has_one = λ client other fold is is_other. moves client fold is
            (λ was new_is. moves other fold is_other
            (λ was_other _. m.user_has_one client other old was was_other)
            (λ was_other two. absurd (not_new other fold was_other two
            (ap (λ f. same_fold f new) (sym new_is) ∙ same_fold-refl new))))
            (λ was two. moves other fold is_other
            (λ was_other new_is. absurd (not_new client fold was two
            (ap (λ f. same_fold f new) (sym new_is) ∙ same_fold-refl new)))
            (λ was_other _. m.user_has_one client other fold was was_other));
        user_has_client = λ fold home is. had fold home (same_fold fold new)
            (same_fold fold old) refl refl (sym (users_are fold) ∙ is);
      }
    where
      moves : {A : Type 0} (client : ℕ) (fold : List ℕ) → registered_new client ≡ Some fold
          → (registered client ≡ Some old → new ≡ fold → A)
          → (registered client ≡ Some fold → same_fold fold old ≡ false → A) → A
      moves {A} client fold is took stayed =
          by (registered client) refl (sym (clients_are client) ∙ is)
        where
          by_fold : (was_fold : List ℕ) (b : Bool) → same_fold was_fold old ≡ b
              → registered client ≡ Some was_fold → Some (cond b new was_fold) ≡ Some fold → A
          by_fold was_fold true one was now =
              took (was ∙ ap Some (one_fold was_fold old one)) (same_Some new fold now)
          by_fold was_fold false two was now = stayed (was ∙ now)
              (ap (λ f. same_fold f old) (sym (same_Some was_fold fold now)) ∙ two)

          by : (o : Option (List ℕ)) → registered client ≡ o
              → option_map (λ f. cond (same_fold f old) new f) o ≡ Some fold → A
          by None was now = absurd (cc now)
          by (Some was_fold) was now = by_fold was_fold (same_fold was_fold old) refl was now

      at_new : user_new new ≡ Some its_home
      at_new = users_are new ∙ ap (λ b. cond b (Some its_home)
          (cond (same_fold new old) None (user_home new))) (same_fold-refl new)

      at_other : (fold : List ℕ) → same_fold fold new ≡ false → same_fold fold old ≡ false
          → user_new fold ≡ user_home fold
      at_other fold not_new not_old =
          users_are fold ∙ ap (λ b. cond b (Some its_home)
          (cond (same_fold fold old) None (user_home fold))) not_new
          ∙ ap (λ b. cond b None (user_home fold)) not_old

      not_new : (client : ℕ) (fold : List ℕ) → registered client ≡ Some fold
          → same_fold fold old ≡ false → same_fold fold new ≡ true → ⊥
      not_new client fold was two one =
          let user = m.registered_is_user client fold was in
          let new_is_old =
          free user.home (ap user_home (sym (one_fold fold new one)) ∙ user.of_user) in
          let same = sym two ∙ ap (λ f. same_fold f old) (one_fold fold new one ∙ new_is_old)
          ∙ same_fold-refl old in cc same

      had : (fold : List ℕ) (home : Name) (b c : Bool) → same_fold fold new ≡ b → same_fold fold old
          ≡ c → cond b (Some its_home) (cond c None (user_home fold)) ≡ Some home
          → HasClient registered_new fold
      had fold home true c one _ is =
          let its = m.user_has_client old its_home at_old in
          record {
            client = its.client;
            is_registered = clients_are its.client
                ∙ ap (option_map (λ f. cond (same_fold f old) new f)) its.is_registered
                ∙ ap (λ b. Some (cond b new old)) (same_fold-refl old)
                ∙ ap Some (sym (one_fold fold new one));
          }
      had fold home false true _ _ is = absurd (cc is)
      had fold home false false _ two is =
          let its = m.user_has_client fold home is in
          record {
            client = its.client;
            is_registered =
                clients_are its.client
                ∙ ap (option_map (λ f. cond (same_fold f old) new f)) its.is_registered
                ∙ ap (λ b. Some (cond b new fold)) two;
          }

-- ---- two become one

-- what is new is of the first or of the second, and all of both is there
pub record IsOfBoth {K X : Type 0} (one other new : K → Option X) : Type 0 where
  pub of : (k : K) (x : X) → new k ≡ Some x → (one k ≡ Some x) ⊎ (other k ≡ Some x)
  pub first : (k : K) (x : X) → one k ≡ Some x → new k ≡ Some x
  pub second : (k : K) (x : X) → other k ≡ Some x → new k ≡ Some x

module _ (homes : ℕ → Option Name) (one_home other_home new_home : List ℕ → Option Name)
    (one other new : ℕ → Option (List ℕ))
    (m : AreMatched homes one_home one) (n : AreMatched homes other_home other)
    (users : IsOfBoth one_home other_home new_home)
    (clients : IsOfBoth one other new)
    (apart : (fold : List ℕ) (home there : Name) → one_home fold ≡ Some home
    → other_home fold ≡ Some there → ⊥) where
  not_both : (client another : ℕ) (fold : List ℕ) → one client ≡ Some fold
      → other another ≡ Some fold → ⊥
  not_both client another fold here there =
      let user = m.registered_is_user client fold here in
      let second = n.registered_is_user another fold there in
      apart fold user.home second.home user.of_user second.of_user

  pub both_matched : AreMatched homes new_home new
  both_matched = record {
    registered_is_user = λ client fold is. ⊎_elim
        (λ (here : one client ≡ Some fold).
        let user = m.registered_is_user client fold here in
        record {
          home = user.home;
          of_client = user.of_client;
          of_user = users.first fold user.home user.of_user;
        })
        (λ (there : other client ≡ Some fold).
        let user = n.registered_is_user client fold there in
        record {
          home = user.home;
          of_client = user.of_client;
          of_user = users.second fold user.home user.of_user;
        })
        (clients.of client fold is);
    user_has_one = λ client another fold is is_other. ⊎_elim
        (λ (here : one client ≡ Some fold). ⊎_elim
        (λ (too : one another ≡ Some fold). m.user_has_one client another fold here too)
        (λ (there : other another ≡ Some fold). absurd (not_both client another fold here there))
        (clients.of another fold is_other))
        (λ (there : other client ≡ Some fold). ⊎_elim
        (λ (here : one another ≡ Some fold). absurd (not_both another client fold here there))
        (λ (too : other another ≡ Some fold). n.user_has_one client another fold there too)
        (clients.of another fold is_other))
        (clients.of client fold is);
    user_has_client = λ fold home is. ⊎_elim
        (λ (here : one_home fold ≡ Some home).
        let its = m.user_has_client fold home here in record {
          client = its.client;
          is_registered = clients.first its.client fold its.is_registered;
        })
        (λ (there : other_home fold ≡ Some home).
        let its = n.user_has_client fold home there in record {
          client = its.client;
          is_registered = clients.second its.client fold its.is_registered;
        })
        (users.of fold home is);
  }
