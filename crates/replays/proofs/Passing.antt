-- The sends of an end, found in the entries one after the other.
use Rattle.std.proofs.Common.{◌≡◌, ◌≢◌, ℕ, ◌+◌, ◌≤◌, List, [], ◌∷◌, ◌++◌, length, take, drop, None, Some, sym, ap, ◌∙◌, arith, append_assoc}
use Rattle.std.proofs.lemmas.List.{append-nil, take-append-drop, take_all}
use Rattle.std.specs.List.{slice_get}
use Rattle.dcp_types.specs.declared.addresses.Address.{Address}
use Rattle.dcp_ends.specs.declared.entries.LogEntry.{LogEntry}
use Rattle.dcp_ends.specs.declared.entries.LogEntry.TheVariants.{Sent}
use Rattle.dcp_ends.specs.Events.{Send}
use Rattle.dcp_ends.specs.Logs.{sent_by}
use Rattle.rounds.proofs.Parts.{sent_more, slice_get_none, take_found}
use Rattle.replays.specs.Visits.{HasFirst, HasNoMore, HasOther}

split_at : (sends : List Send) (i : ℕ) (send : Send) → Some send ≡ slice_get sends i → take i sends ++ send ∷ drop (i + 1) sends ≡ sends
split_at sends i send found =
    sym (append_assoc (take i sends) (send ∷ []) (drop (i + 1) sends)) ∙ ap (λ front. front ++ drop (i + 1) sends) (sym (take_found sends i send (sym found))) ∙ take-append-drop (i + 1) sends

module _ (place : Address) (sends : List Send) (entries : List LogEntry) (start at i : ℕ) (later : start ≤ at) (within : at ≤ length entries)
    (there : take at entries ≡ take start entries ++ sent_by place (take i sends)) where
  pub has_all : None ≡ slice_get sends i → HasFirst place sends [] entries start at
  has_all none = record {
    gone = sends;
    split = append-nil sends;
    later = later;
    within = within;
    there = there ∙ ap (λ gone. take start entries ++ sent_by place gone) (take_all i sends (slice_get_none sends i none));
  }

  has_some : (send : Send) → Some send ≡ slice_get sends i → HasFirst place sends (send ∷ drop (i + 1) sends) entries start at
  has_some send found = record { gone = take i sends; split = split_at sends i send found; later = later; within = within; there = there }

  pub has_other : (send : Send) (entry : LogEntry) → Some send ≡ slice_get sends i → slice_get entries at ≡ Some entry → entry ≢ Sent place send.to send.bytes → HasOther place sends entries start at
  has_other send entry found here other = record { send = send; left = drop (i + 1) sends; first = has_some send found; entry = entry; here = here; other = other }

  pub has_no_more : (send : Send) → Some send ≡ slice_get sends i → length entries ≤ at → HasNoMore place sends entries start
  has_no_more send found past =
      let end : at ≡ length entries = omega arith in
      record {
        send = send;
        left = drop (i + 1) sends;
        first = record {
          gone = take i sends;
          split = split_at sends i send found;
          later = omega arith;
          within = omega arith;
          there = ap (λ (n : ℕ). take n entries) (sym end) ∙ there;
        };
      }

  pub has_more : (send : Send) → Some send ≡ slice_get sends i → slice_get entries at ≡ Some (Sent place send.to send.bytes)
      → take (at + 1) entries ≡ take start entries ++ sent_by place (take (i + 1) sends)
  has_more send found here =
      take_found entries at _ here ∙ ap (λ front. front ++ Sent place send.to send.bytes ∷ []) there ∙ append_assoc (take start entries) _ _
      ∙ ap (λ more. take start entries ++ more) (sent_more place sends i send (sym found))
