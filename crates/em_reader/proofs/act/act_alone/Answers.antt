use Rattle.em_view.proofs.Doing.{finish_s, owned_s, refused_s}
use Rattle.em_reader.proofs.act.act_alone.Goals as goal

pub returns-in-Assign : goal.returns-in-Assign
returns-in-Assign g c = rw c.in-Assign.is (owned_s _ c.assign.ensures)

pub returns-in-Undefine : goal.returns-in-Undefine
returns-in-Undefine g c = rw c.in-Undefine.is (owned_s _ c.undefine.ensures)

pub returns-in-Export : goal.returns-in-Export
returns-in-Export g c = rw c.in-Export.is (owned_s _ c.export.ensures)

pub returns-in-Unexport : goal.returns-in-Unexport
returns-in-Unexport g c = rw c.in-Unexport.is (owned_s _ c.unexport.ensures)

pub returns-in-Unsupported : goal.returns-in-Unsupported
returns-in-Unsupported g c = rw c.in-Unsupported.is (refused_s _ (rw c.bytes.ensures at c.refused.ensures))

pub returns-in-Stray : goal.returns-in-Stray
returns-in-Stray g c = rw c.in-Stray.is (refused_s _ c.at.ensures)

pub returns-in-Blank : goal.returns-in-Blank
returns-in-Blank g c = rw c.in-Blank.is finish_s

pub returns-in-If : goal.returns-in-If
returns-in-If g c = rw c.in-If.is finish_s

pub returns-in-Else : goal.returns-in-Else
returns-in-Else g c = rw c.in-Else.is finish_s

pub returns-in-ElseIf : goal.returns-in-ElseIf
returns-in-ElseIf g c = rw c.in-ElseIf.is finish_s

pub returns-in-Endif : goal.returns-in-Endif
returns-in-Endif g c = rw c.in-Endif.is finish_s

pub returns-in-Extraneous : goal.returns-in-Extraneous
returns-in-Extraneous g c = rw c.in-Extraneous.is finish_s

pub returns-in-Define : goal.returns-in-Define
returns-in-Define g c = rw c.in-Define.is finish_s

pub returns-in-Include : goal.returns-in-Include
returns-in-Include g c = rw c.in-Include.is finish_s
