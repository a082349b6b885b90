use Rattle.std.proofs.Common.{sym, subst}
use Rattle.std.specs.Prelude.{OnOk}
use Rattle.aml_code.specs.Pieces.{piece_view}
use Rattle.aml_code.specs.declared.pieces.Piece.{Piece}
use Rattle.aml_load.specs.Hearing.{catch}
use Rattle.aml_load.specs.HearingViews.{Goes}
use Rattle.aml_load.proofs.ears.Ears.catch.Goals as goal

pub returns-in-Label : goal.returns-in-Label
returns-in-Label c k own =
    subst (λ (p : Piece). OnOk c.pass.result (Goes k c.args.self.now c.pass.new.self (catch (piece_view p)))) (sym c.in-Label.is) (c.pass.ensures k)

pub returns-in-Byte : goal.returns-in-Byte
returns-in-Byte c k own =
    subst (λ (p : Piece). OnOk c.pass-in-Byte.result (Goes k c.args.self.now c.pass-in-Byte.new.self (catch (piece_view p)))) (sym c.in-Byte.is) (c.pass-in-Byte.ensures k)

pub returns-in-Absent : goal.returns-in-Absent
returns-in-Absent c k own =
    subst (λ (p : Piece). OnOk c.pass-in-Absent.result (Goes k c.args.self.now c.pass-in-Absent.new.self (catch (piece_view p)))) (sym c.in-Absent.is) (c.pass-in-Absent.ensures k)

pub returns-in-Word : goal.returns-in-Word
returns-in-Word c k own =
    subst (λ (p : Piece). OnOk c.pass-in-Word.result (Goes k c.args.self.now c.pass-in-Word.new.self (catch (piece_view p)))) (sym c.in-Word.is) (c.pass-in-Word.ensures k)

pub returns-in-Dword : goal.returns-in-Dword
returns-in-Dword c k own =
    subst (λ (p : Piece). OnOk c.pass-in-Dword.result (Goes k c.args.self.now c.pass-in-Dword.new.self (catch (piece_view p)))) (sym c.in-Dword.is) (c.pass-in-Dword.ensures k)

pub returns-in-Qword : goal.returns-in-Qword
returns-in-Qword c k own =
    subst (λ (p : Piece). OnOk c.pass-in-Qword.result (Goes k c.args.self.now c.pass-in-Qword.new.self (catch (piece_view p)))) (sym c.in-Qword.is) (c.pass-in-Qword.ensures k)

pub returns-in-Text : goal.returns-in-Text
returns-in-Text c k own =
    subst (λ (p : Piece). OnOk c.pass-in-Text.result (Goes k c.args.self.now c.pass-in-Text.new.self (catch (piece_view p)))) (sym c.in-Text.is) (c.pass-in-Text.ensures k)

pub returns-in-EndOfCall : goal.returns-in-EndOfCall
returns-in-EndOfCall c k own =
    subst (λ (p : Piece). OnOk c.close.result (Goes k c.args.self.now c.close.new.self (catch (piece_view p)))) (sym c.in-EndOfCall.is) (c.close.ensures k)

pub returns-in-Empty : goal.returns-in-Empty
returns-in-Empty c k own =
    subst (λ (p : Piece). OnOk c.close-in-Empty.result (Goes k c.args.self.now c.close-in-Empty.new.self (catch (piece_view p)))) (sym c.in-Empty.is) (c.close-in-Empty.ensures k)

pub returns-in-Bytes : goal.returns-in-Bytes
returns-in-Bytes c k own =
    subst (λ (p : Piece). OnOk c.close-in-Bytes.result (Goes k c.args.self.now c.close-in-Bytes.new.self (catch (piece_view p)))) (sym c.in-Bytes.is) (c.close-in-Bytes.ensures k)

pub returns-in-Body : goal.returns-in-Body
returns-in-Body c k own =
    subst (λ (p : Piece). OnOk c.close-in-Body.result (Goes k c.args.self.now c.close-in-Body.new.self (catch (piece_view p)))) (sym c.in-Body.is) (c.close-in-Body.ensures k)

pub returns-in-List : goal.returns-in-List
returns-in-List c k own =
    subst (λ (p : Piece). OnOk c.catch_list.result (Goes k c.args.self.now c.catch_list.new.self (catch (piece_view p)))) (sym c.in-List.is) (c.catch_list.ensures k)

pub returns-in-EndOfList : goal.returns-in-EndOfList
returns-in-EndOfList c k own =
    subst (λ (p : Piece). OnOk c.close_list.result (Goes k c.args.self.now c.close_list.new.self (catch (piece_view p)))) (sym c.in-EndOfList.is) (c.close_list.ensures k)

pub returns-in-Field : goal.returns-in-Field
returns-in-Field c k own =
    subst (λ (p : Piece). OnOk c.catch_unit.result (Goes k c.args.self.now c.catch_unit.new.self (catch (piece_view p)))) (sym c.in-Field.is) (c.catch_unit.ensures k)
