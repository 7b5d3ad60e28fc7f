-- What the parts of an open network are, by what it was opened with and its calls.
use Rattle.std.specs.Prelude.{◌≡◌, ℕ, ◌&&◌, List, [], map, Bool}
use Rattle.std.specs.List.{filter}
use Rattle.dcp_types.specs.declared.addresses.Address.{Address}
use Rattle.dcp_ends.specs.Logs.{same_address}
use Rattle.dcp_ends.specs.declared.entries.LogEntry.{LogEntry}
use Rattle.dcp_net.specs.declared.openings.Opening.{Opening}
use Rattle.net_world.specs.declared.deliveries.Arrival.{Arrival}
use Rattle.net_world.specs.declared.mailboxes.Mailbox.{Mailbox}
use Rattle.net_world.specs.declared.watches.Watch.{Watch}
use Rattle.net_world.specs.Calls.{GivesDue}
use Rattle.net_world.specs.Chances.{generator_at}
use Rattle.net_world.specs.Deliveries.{is_young, waiting}
use Rattle.net_world.specs.Mailboxes.{queue_of}
use Rattle.net_world.specs.Messages.{messages}
use Rattle.net_world.specs.Queues.{AllShort, InOrder}
use Rattle.net_world.specs.Watches.{watch_after}

-- it is for this address and not gone
abbrev pub is_kept : Address → ℕ → Arrival → Bool
is_kept at sent d = same_address d.to at && is_young sent d

-- the queue has what waits for this address, in the same order, and perhaps some that is gone
pub record Queues (sent : ℕ) (all : List Arrival) (at : Address) (queue : List Arrival) : Type 0 where
  pub same : filter (is_young sent) queue ≡ filter (is_kept at sent) all
  pub order : InOrder queue
  pub fit : AllShort queue

pub record IsTied (o : Opening) (calls : List LogEntry) (watches : List Watch) (generator sent : ℕ) (boxes : List Mailbox) : Type 0 where
  pub watched : watches ≡ map (watch_after o.all calls) o.plan.lines
  pub drawn : generator ≡ generator_at o.plan.chaos (messages calls)
  pub numbered : sent ≡ messages calls
  pub queues : (at : Address) → Queues (messages calls) (waiting o calls) at (queue_of at boxes)
  pub given : GivesDue o [] calls
