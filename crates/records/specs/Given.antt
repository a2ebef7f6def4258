-- What a call gives, by the code's struct; and what the code holds at a record.
use Rattle.std.specs.Prelude.{ℕ, List}
use Rattle.meaning.specs.Call as M
use Rattle.meaning.specs.Call.{Call, card64, record_with}
use Rattle.records.specs.declared.Setting.{Setting}
use Rattle.records.specs.declared.Record.{Record}

abbrev pub as_setting : Setting → M.Setting
as_setting s = record { card = card64; size = s.size; rows = s.rows; address = s.address; gp = s.gp }

-- The call of a setting and the value bytes.
abbrev pub given : Setting → List ℕ → Call
given s values = record { setting = as_setting s; values = values }

-- The record of these bytes, with this row.
abbrev pub seen : List ℕ → List ℕ → M.Record
seen rela row = record_with card64 rela row

-- A record of the code, as the meaning has it, and its setting.
abbrev pub record_in : Record → M.Record
record_in r = seen r.bytes.now r.row.now

abbrev pub setting_in : Record → M.Setting
setting_in r = as_setting r.setting.now
