pub mod ObjectStage
