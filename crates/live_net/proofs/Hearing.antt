-- What is given of a connection that was asked.
use Rattle.std.proofs.Common.{◌≡◌, ◌∙◌, ap, ℕ, ◌<◌, List, length, map, set, take, Some, option_map, get_or-set_same, length-set}
use Rattle.std.proofs.lemmas.Option.{slice_get-get_or, slice_get-map}
use Rattle.dcp_types.specs.declared.addresses.Address.{Address}
use Rattle.live_net.specs.declared.connections.Connection.{Connection}
use Rattle.live_net.specs.declared.connections.Heard.TheVariants.{Gram}
use Rattle.live_net.specs.Connections.{BringsMessage, HandedOut, inlet_of}

pub handed_out : (all : List Address) (old : List Connection) (turn len : ℕ) (asked : Connection) (from : Address) (room : List ℕ) → turn < length old
    → BringsMessage all (Gram from) (inlet_of asked)
    → take len room ≡ (inlet_of asked).reader.last → HandedOut (map inlet_of (set old turn asked)) from (take len room)
handed_out all old turn len asked from room here brought front =
    let within : turn < length (set old turn asked) = rw length-set here in
    record {
      place = turn;
      inlet = inlet_of asked;
      here = slice_get-map inlet_of (set old turn asked) turn
          ∙ ap (option_map inlet_of) (slice_get-get_or (set old turn asked) turn asked within ∙ ap Some (get_or-set_same old turn asked asked here));
      sender = brought.1;
      handed = front;
      is_frame = rw front brought.2;
    }
