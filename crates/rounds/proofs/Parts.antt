-- Parts of a log, one after another.
use Rattle.std.proofs.Common.{◌≡◌, ℕ, ◌+◌, ◌≤◌, List, [], ◌∷◌, ◌++◌, length, take, drop, Option, Some, None, refl, ap, sym, ◌∙◌, arith, append_assoc, zero, suc}
use Rattle.std.proofs.lemmas.List.{append-nil, take_more, take-append-drop, take_all}
use Rattle.std.proofs.lemmas.Option.{slice_get_within, get_or_from_slice_get}
use Rattle.std.specs.List.{slice_get}
use Rattle.dcp_types.specs.declared.addresses.Address.{Address}
use Rattle.dcp_ends.specs.declared.entries.LogEntry.{LogEntry}
use Rattle.dcp_ends.specs.declared.entries.LogEntry.TheVariants.{Sent}
use Rattle.dcp_ends.specs.Events.{Send}
use Rattle.dcp_ends.specs.Logs.{sent_by}
use Rattle.dcp_net.specs.Nets.{told_more}
use Rattle.rounds.specs.Steps.{Added, SendsSome, without_turn, without_turns}

pub without_turns-append : (p q : List LogEntry) → without_turns (p ++ q) ≡ without_turns p ++ without_turns q
without_turns-append [] q = refl
without_turns-append (e ∷ p) q = ap (λ rest. without_turn e ++ rest) (without_turns-append p q) ∙ sym (append_assoc (without_turn e) (without_turns p) (without_turns q))

pub told_more-join : (t : Option (List LogEntry)) (p q : List LogEntry) → told_more (told_more t p) q ≡ told_more t (p ++ q)
told_more-join None p q = refl
told_more-join (Some l) p q = ap Some (append_assoc l p q)

pub told_more-nil : (t : Option (List LogEntry)) → told_more t [] ≡ t
told_more-nil None = refl
told_more-nil (Some l) = ap Some (append-nil l)

module _ {N : Type 0} (calls : N → Option (List LogEntry)) where
  pub Added-join : (a b c : N) (l m n p q : List LogEntry) → Added calls a b l m p → Added calls b c m n q → Added calls a c l n (p ++ q)
  Added-join a b c l m n p q f s = record {
    log = s.log ∙ ap (λ xs. xs ++ q) f.log ∙ append_assoc l p q;
    told = s.told ∙ ap (λ t. told_more t (without_turns q)) f.told ∙ told_more-join (calls a) (without_turns p) (without_turns q)
        ∙ ap (told_more (calls a)) (sym (without_turns-append p q));
  }

  pub Added-same : (a b c : N) (l m n p : List LogEntry) → Added calls a b l m p → Added calls b c m n [] → Added calls a c l n p
  Added-same a b c l m n p f s = let joined = Added-join a b c l m n p [] f s in rw append-nil at joined

  pub Added-nil : (a : N) (l : List LogEntry) → Added calls a a l l []
  Added-nil a l = record { log = sym (append-nil l); told = sym (told_more-nil (calls a)) }

pub sent_by-append : (place : Address) (xs ys : List Send) → sent_by place (xs ++ ys) ≡ sent_by place xs ++ sent_by place ys
sent_by-append place [] ys = refl
sent_by-append place (x ∷ xs) ys = ap (λ rest. Sent place x.to x.bytes ∷ rest) (sent_by-append place xs ys)

pub take_found : {X : Type 0} (xs : List X) (i : ℕ) (x : X) → slice_get xs i ≡ Some x → take (i + 1) xs ≡ take i xs ++ x ∷ []
take_found xs i x h = take_more xs i x (slice_get_within xs i x h) ∙ ap (λ y. take i xs ++ y ∷ []) (get_or_from_slice_get xs i x x h)

pub slice_get_none : {X : Type 0} (xs : List X) (i : ℕ) → None ≡ slice_get xs i → length xs ≤ i
slice_get_none [] i h = omega arith
slice_get_none (x ∷ xs) zero h = cc
slice_get_none (x ∷ xs) (suc i) h = let rest : length xs ≤ i = slice_get_none xs i h in omega arith

pub sent_more : (place : Address) (sends : List Send) (i : ℕ) (send : Send) → slice_get sends i ≡ Some send
    → sent_by place (take i sends) ++ Sent place send.to send.bytes ∷ [] ≡ sent_by place (take (i + 1) sends)
sent_more place sends i send h = sym (ap (sent_by place) (take_found sends i send h) ∙ sent_by-append place (take i sends) (send ∷ []))

module _ {N : Type 0} (calls : N → Option (List LogEntry)) (place : Address) (sends : List Send) (i : ℕ) (a b c : N) (l m n : List LogEntry) where
  pub SendsSome-stop : Added calls a b l m (sent_by place (take i sends)) → Added calls b c m n [] → SendsSome calls place sends a c l n
  SendsSome-stop so_far none = record { gone = take i sends; left = drop i sends; split = take-append-drop i sends; added = Added-same calls a b c l m n _ so_far none }

  pub Added-send : (send : Send) → Some send ≡ slice_get sends i → Added calls a b l m (sent_by place (take i sends)) → Added calls b c m n (Sent place send.to send.bytes ∷ [])
      → Added calls a c l n (sent_by place (take (i + 1) sends))
  Added-send send found so_far one =
      let joined = Added-join calls a b c l m n (sent_by place (take i sends)) (Sent place send.to send.bytes ∷ []) so_far one in
      rw (sent_more place sends i send (sym found)) at joined

pub Added-all : {N : Type 0} (calls : N → Option (List LogEntry)) (place : Address) (sends : List Send) (i : ℕ) (a b : N) (l m : List LogEntry)
    → length sends ≤ i → Added calls a b l m (sent_by place (take i sends)) → Added calls a b l m (sent_by place sends)
Added-all calls place sends i a b l m le so_far = rw (take_all i sends le) at so_far
