-- What a row holds, key and payload: as a snapshot shows it, as a transaction is shown it, and as it is now.
use Rattle.std.specs.Prelude.{ℕ, cond}
use Rattle.std.proofs.Math.Option.{Option, none, some}
use Rattle.model.specs.Store.{Chains, Snapshot, Write, Txn, Store}
use Rattle.model.specs.Seeing.{version_of, key_at, last_write, pending, snapshot_now}
use Rattle.model.specs.Steps.{new_key, written_payload}

-- key and payload, or nothing where a row has no version or an erased one
abbrev pub Content : Type 0
Content = Option (ℕ × ℕ)

-- of a key, or none, and a payload
abbrev pub content : Option ℕ → ℕ → Content
content none payload = none
content (some k) payload = some (k, payload)

-- the key that is held, and the payload; where nothing is, none and 0
abbrev pub key_held : Content → Option ℕ
key_held none = none
key_held (some held) = some held.0

abbrev pub payload_held : Content → ℕ
payload_held none = 0
payload_held (some held) = held.1

-- a pending write of a row: of a key with its payload, or of nothing
abbrev pub pending_write : ℕ → Content → Write
pending_write r c = record { row = r; key = key_held c; payload = payload_held c }

-- what a snapshot shows of a row
unfoldable pub content_of : Chains → Snapshot → ℕ → Content
content_of c v r = content (key_at c (version_of c v r)) (c.payload (version_of c v r))

-- what a row shows to a transaction: its last pending write, or else what its snapshot shows
unfoldable pub shown_to : Chains → Txn → ℕ → Content
shown_to c x r = cond (pending x.writes r) (content (new_key x r) (written_payload (last_write x.writes r))) (content_of c x.snapshot r)

-- the live rows: what a snapshot taken now shows of each row
abbrev pub live_row : Store → ℕ → Content
live_row s r = content_of s.chains (snapshot_now s) r
