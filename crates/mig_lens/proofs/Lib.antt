pub mod HalvesFit
