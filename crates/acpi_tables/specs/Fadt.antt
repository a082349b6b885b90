-- The Fixed ACPI Description Table (ACPI 6.5, section 5.2.9, table 5.9), as far as it is read here.
use Rattle.std.specs.Prelude.{ℕ, List, [], ◌∷◌, map, Option, Some}
use Rattle.acpi_tables.specs.Bytes.{Field, hex}
use Rattle.acpi_tables.specs.declared.fadt.Fadt.{Fadt}

-- the fields; the functions behind them are for the code's values
abbrev pub fadt_rows : List (Field × (Fadt → Option ℕ))
fadt_rows =
    (hex 36 4 "FirmwareCtrl", λ f. Some f.firmware_ctrl) ∷
    (hex 40 4 "Dsdt", λ f. Some f.dsdt) ∷
    (hex 45 1 "Profile", λ f. Some f.profile) ∷
    (hex 46 2 "SciInt", λ f. Some f.sci_int) ∷
    (hex 48 4 "SmiCmd", λ f. Some f.smi_cmd) ∷
    (hex 52 1 "AcpiEnable", λ f. Some f.acpi_enable) ∷
    (hex 53 1 "AcpiDisable", λ f. Some f.acpi_disable) ∷
    (hex 56 4 "Pm1aEvt", λ f. Some f.pm1a_evt) ∷
    (hex 64 4 "Pm1aCnt", λ f. Some f.pm1a_cnt) ∷
    (hex 76 4 "PmTmr", λ f. Some f.pm_tmr) ∷
    (hex 80 4 "Gpe0", λ f. Some f.gpe0) ∷
    (hex 92 1 "Gpe0Len", λ f. Some f.gpe0_len) ∷
    (hex 109 2 "BootArch", λ f. Some f.boot_arch) ∷
    (hex 112 4 "Flags", λ f. Some f.flags) ∷
    (hex 132 8 "XFirmwareCtrl", λ f. f.x_firmware_ctrl) ∷
    (hex 140 8 "XDsdt", λ f. f.x_dsdt) ∷
    []

abbrev pub fadt_fields : List Field
fadt_fields = map (λ row. row.0) fadt_rows

abbrev pub fadt_values : Fadt → List (Option ℕ)
fadt_values f = map (λ row. row.1 f) fadt_rows
