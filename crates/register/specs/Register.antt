-- The register's contents as lists, and the empty register.
use Rattle.std.specs.Prelude.{ℕ, List, take, replicate}
use Rattle.register.specs.declared.Record.{Record}
use Rattle.register.specs.declared.Register.{Register}

-- "Up to 16 roles"; "A register has a place for 128 records."
abbrev pub role_places : ℕ
role_places = 16

abbrev pub record_places : ℕ
record_places = 128

-- The parent of each role, and each record, by number.
pub record Contents : Type 0 where
  pub roles : List ℕ
  pub records : List Record

-- these roles and these records
abbrev pub holding : List ℕ → List Record → Contents
holding roles records = record { roles = roles; records = records }

abbrev pub contents : Register → Contents
contents g = holding (take g.role_count g.roles) (take g.record_count g.records)

-- what stands where there is no record
abbrev pub no_record : Record
no_record = record { parent = 0; author = 0; origins = 0; sensitivities = 0; kind = 0; labels = 0 }

-- the empty register holds nothing
unfoldable pub empty_register : Register
empty_register =
    record { roles = replicate role_places 0; role_count = 0; records = replicate record_places no_record; record_count = 0 }
