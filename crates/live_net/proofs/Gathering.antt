-- What a receiving side has gathered, as bytes are fed and messages are handed out.
use Rattle.std.proofs.Common.{◌≡◌, ◌≤◌, ◌+◌, ◌-◌, ◌∙◌, ap, arith, ℕ, List, ◌++◌, take, drop, Option, append_assoc}
use Rattle.std.proofs.lemmas.List.{take-append-drop, drop-take}
use Rattle.stream_frame.specs.Inlets.{Arriving, Receives}
use Rattle.live_net.specs.Intakes.{Gathers}

module _ {start left : Option (List ℕ)} {old new : Arriving} {held : List ℕ} {grams : List (List ℕ)} where
  -- a front of what is held back goes to the inlet
  pub fed_more : (n : ℕ) → ((bytes : List ℕ) (messages : List (List ℕ)) → Receives old bytes messages → Receives new (bytes ++ take n held) messages)
      → Gathers start left old held grams → Gathers start left new (drop n held) grams
  fed_more n moved before = record {
    fed = before.fed ++ take n held;
    given = rw (append_assoc before.fed (take n held) (drop n held), take-append-drop n held) before.given;
    receives = moved before.fed grams before.receives;
  }

  -- a question for a message takes no byte
  pub asked_more : (later : List (List ℕ)) → ((bytes : List ℕ) → Receives old bytes grams → Receives new bytes later)
      → Gathers start left old held grams → Gathers start left new held later
  asked_more later moved before = record {
    fed = before.fed;
    given = before.given;
    receives = moved before.fed before.receives;
  }

-- the bytes from one place to another
pub middle : (at end : ℕ) (bytes : List ℕ) → at ≤ end → drop at (take end bytes) ≡ take (end - at) (drop at bytes)
middle at end bytes within = let e : end ≡ at + (end - at) = omega arith in ap (λ k. drop at (take k bytes)) e ∙ drop-take at (end - at) bytes
